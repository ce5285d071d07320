-- The definitions that contracts cite.
pub mod FileColumns
pub mod FileReads
pub mod HiveParts
