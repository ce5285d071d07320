-- The lemmas of this crate.
pub mod FitLemmas
pub mod FormedLemmas
pub mod SideLemmas
