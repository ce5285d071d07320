-- The definitions that contracts cite.
pub mod Hive
pub mod Scans
pub mod Functions
