-- The lemmas of this crate.
pub mod LevelLemmas
pub mod Numbers
pub mod SplitLemmas
pub mod TreeLemmas
pub mod Frames
pub mod JoinLemmas
pub mod ReadLemmas
pub mod WalkLemmas
pub mod WalkTrees
pub mod Neighbours
pub mod Roots
pub mod Pairs
pub mod Replaced
