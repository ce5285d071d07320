-- The definitions that contracts cite.
pub mod Joins
pub mod Rows
pub mod Columns
pub mod Several
pub mod Nodes
