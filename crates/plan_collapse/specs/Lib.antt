-- The definitions that contracts cite.
pub mod KeysAt
pub mod NewJoins
pub mod Ways
