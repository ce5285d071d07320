-- The definitions that contracts cite.
pub mod Among
pub mod ByName
pub mod Known
pub mod Places
pub mod Renaming
