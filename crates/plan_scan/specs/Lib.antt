-- The definitions that contracts cite.
pub mod Source
pub mod Walk
pub mod Sources
pub mod Stats
