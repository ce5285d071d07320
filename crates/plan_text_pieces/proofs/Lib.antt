-- The lemmas of this crate.
mod TokenLemmas
