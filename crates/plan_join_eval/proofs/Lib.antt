-- The lemmas of this crate.
mod EqualLemmas
mod FillLemmas
mod AlongLemmas
mod TableLemmas
mod CompareLemmas
mod ElementwiseLemmas
mod ReadLemmas
mod RunLemmas
pub mod JoinLemmas
