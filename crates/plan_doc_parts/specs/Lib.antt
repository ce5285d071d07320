-- The definitions that contracts cite.
pub mod Gives
pub mod Each
pub mod Parts
pub mod Members
pub mod Values
