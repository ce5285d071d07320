-- The definitions that contracts cite.
pub mod Equal
pub mod Fills
pub mod Along
pub mod Reads
pub mod Runs
pub mod Compared
