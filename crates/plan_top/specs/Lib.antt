-- The definitions that contracts cite.
pub mod Chains
pub mod Trails
