-- The lemmas of this crate.
pub mod ReadingLemmas
pub mod TableLemmas
pub mod FormedLemmas
