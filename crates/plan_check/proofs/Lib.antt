-- The lemmas of this crate.
mod ApartLemmas
mod GroupFaults
mod ReadLemmas
mod ScanLemmas
pub mod TreeFaultLemmas
mod TypedLemmas
mod InputLemmas
mod UnionFaults
mod InPlaceLemmas
mod RenamedLemmas
