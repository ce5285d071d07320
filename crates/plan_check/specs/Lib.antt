-- The definitions that contracts cite.
pub mod InPlace
pub mod Renamed
