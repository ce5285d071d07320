-- The definitions that contracts cite.
pub mod Parts
pub mod Values
pub mod Hive
