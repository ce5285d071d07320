-- The definitions that contracts cite.
pub mod Rows
pub mod Reordering
pub mod Shuffles
pub mod Orderless
pub mod Elementwise
pub mod Demands
pub mod Reorders
pub mod WorkedDemands
pub mod Counted
pub mod WorkedCounts
pub mod CacheSites
pub mod Handled
pub mod SideBySide
pub mod CacheStates
pub mod WorkedCaches
