-- The lemmas of this crate.
pub mod ColumnLemmas
pub mod NameLemmas
pub mod PlaceLemmas
pub mod MergeLemmas
pub mod InsertLemmas
pub mod SameLemmas
pub mod CopyLemmas
