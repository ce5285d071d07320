-- The definitions that contracts cite.
pub mod Canonical
pub mod Back
