-- The lemmas of this crate.
pub mod NumberingLemmas
pub mod MovedLemmas
pub mod TakenLemmas
pub mod ReadLemmas
pub mod CopyLemmas
