-- The definitions that contracts cite.
pub mod Parts
pub mod Plans
pub mod Moved
pub mod Copies
pub mod Reads
pub mod Walks
