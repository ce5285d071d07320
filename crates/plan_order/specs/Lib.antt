-- The definitions that contracts cite.
pub mod Counts
pub mod DemandTurns
pub mod Members
pub mod Undemanded
