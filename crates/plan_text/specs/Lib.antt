-- The definitions that contracts cite.
pub mod Exprs
pub mod Nodes
pub mod Rows
pub mod Written
