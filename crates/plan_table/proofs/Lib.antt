-- The lemmas of this crate.
pub mod EntryLemmas
pub mod TableLemmas
pub mod PlaceLemmas
pub mod ColumnLemmas
