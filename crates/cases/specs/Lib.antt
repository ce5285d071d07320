-- The definitions that contracts cite.
pub mod Lines
pub mod Words
pub mod Readings
pub mod Endings
pub mod Cases
