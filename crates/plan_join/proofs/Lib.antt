-- The lemmas of this crate.
pub mod ColumnLemmas
pub mod OriginLemmas
pub mod PlaceLemmas
pub mod GivenLemmas
pub mod OrderLemmas
pub mod NameLemmas
pub mod JoinedLemmas
pub mod OwnJoins
