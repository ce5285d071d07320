-- The lemmas of this crate.
pub mod EachLemmas
pub mod MadeLemmas
pub mod JoinLemmas
pub mod PairFaults
pub mod FirstColumns
pub mod JoinFaults
