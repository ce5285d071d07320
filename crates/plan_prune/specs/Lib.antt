-- The definitions that contracts cite.
pub mod Prunes
pub mod Taken
