-- The definitions that contracts cite.
pub mod Layers
pub mod ExprNames
pub mod Found
pub mod Parts
pub mod Meetings
pub mod Looks
pub mod Chains
pub mod Sound
