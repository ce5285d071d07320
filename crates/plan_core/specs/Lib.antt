-- The definitions that contracts cite.
pub mod Lending
pub mod Columns
pub mod Options
pub mod Names
pub mod Flags
pub mod Errors
pub mod UnitVec
