-- The definitions that contracts cite.
pub mod Exprs
pub mod Firsts
pub mod ExprLists
pub mod Grouping
pub mod Values
pub mod Frames
pub mod Aggregates
pub mod Meaning
pub mod Orders
pub mod Rows
pub mod Made
pub mod Beside
pub mod Reshaped
