-- The lemmas of this crate.
pub mod EntryLemmas
pub mod PairLemmas
pub mod NullLemmas
pub mod NoneLemmas
pub mod DistinctLemmas
pub mod ColumnLemmas
pub mod TypedLemmas
