-- The definitions that contracts cite.
pub mod Rose
pub mod Stands
pub mod Read
pub mod Walk
pub mod Depths
pub mod Forests
