-- The definitions that contracts cite.
pub mod Given
pub mod Function
pub mod Explode
