-- The definitions that contracts cite.
pub mod Tables
pub mod Entries
pub mod Places
