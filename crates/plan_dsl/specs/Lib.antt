-- The definitions that contracts cite.
pub mod Appends
pub mod Children
pub mod Copies
pub mod Maps
pub mod Names
pub mod Naming
pub mod Owned
pub mod Parts
pub mod Typing
pub mod Walks
