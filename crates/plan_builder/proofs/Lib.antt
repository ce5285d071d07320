-- The lemmas of this crate.
mod Faults
pub mod Follow
mod Standing
mod PickLemmas
pub mod Joining
