-- The definitions that contracts cite.
pub mod Causes
pub mod Texts
pub mod Memory
