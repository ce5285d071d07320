-- The definitions that contracts cite.
pub mod Lists
pub mod Kinds
pub mod Origins
pub mod Values
pub mod Cells
pub mod Hive
pub mod JoinOptions
pub mod Functions
pub mod Pieces
