-- The lemmas of this crate.
pub mod CheckLemmas
pub mod RenameLemmas
pub mod UnpivotColumns
pub mod StoredLemmas
pub mod StoredNodes
