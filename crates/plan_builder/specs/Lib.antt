-- The definitions that contracts cite.
pub mod Builds
pub mod Picks
pub mod Rests
