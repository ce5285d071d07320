-- The lemmas of this crate.
mod PartLemmas
mod NumberLemmas
mod SameLemmas
mod LeftPartLemmas
mod OutputLemmas
