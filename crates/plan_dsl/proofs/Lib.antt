-- The lemmas of this crate.
pub mod AppendLemmas
pub mod CopyLemmas
pub mod FormLemmas
pub mod ListLemmas
pub mod MapLemmas
pub mod NameLemmas
pub mod SizeLemmas
pub mod TypeLemmas
pub mod WalkLemmas
