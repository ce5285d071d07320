-- The lemmas of this crate.
pub mod FileLemmas
pub mod AddedLemmas
pub mod HiveLemmas
