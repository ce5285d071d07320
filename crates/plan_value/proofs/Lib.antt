-- The lemmas of this crate.
pub mod PlaceLemmas
pub mod RowLemmas
pub mod ShownLemmas
pub mod ColumnLemmas
mod SameLemmas
mod AggregateLemmas
mod GroupLemmas
mod EvaluationLemmas
pub mod WindowLemmas
mod ReadLemmas
pub mod GatheredLemmas
mod KeyLemmas
