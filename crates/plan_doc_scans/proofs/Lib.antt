-- The lemmas of this crate.
pub mod HiveLemmas
pub mod ScanLemmas
