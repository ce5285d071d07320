-- The definitions that contracts cite.
pub mod Scans
pub mod Steps
