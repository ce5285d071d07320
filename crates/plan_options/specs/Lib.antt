-- The definitions that contracts cite.
pub mod Distinct
pub mod Flags
pub mod Function
pub mod Group
pub mod Join
pub mod Schemas
pub mod Texts
pub mod Union
