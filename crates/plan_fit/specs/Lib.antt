-- The definitions that contracts cite.
pub mod Sources
pub mod Fitting
