-- The lemmas of this crate.
pub mod SchemaLemmas
pub mod TextLemmas
