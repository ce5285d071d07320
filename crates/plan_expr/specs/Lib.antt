-- The definitions that contracts cite.
pub mod Aggregates
pub mod Functions
pub mod Operands
pub mod Exprs
pub mod Leaves
pub mod Naming
pub mod Scalars
pub mod Forms
pub mod Walks
pub mod Refusals
pub mod Types
pub mod Same
