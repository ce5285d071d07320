-- The lemmas of this crate.
pub mod AggLemmas
pub mod ExprLemmas
pub mod ListLemmas
pub mod LeafLemmas
pub mod NameLemmas
pub mod ScalarLemmas
pub mod FormLemmas
mod WalkLemmas
mod ReachLemmas
pub mod SameOps
pub mod SameTrees
