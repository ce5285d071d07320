-- The definitions that contracts cite.
pub mod Stacks
pub mod Distinct
pub mod Groups
