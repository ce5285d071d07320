-- The definitions that contracts cite.
pub mod Shown
pub mod Cells
pub mod Pairs
pub mod Groups
