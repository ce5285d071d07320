-- The lemmas of this crate.
pub mod AlikeLemmas
mod AskedParts
mod GroupParts
mod ConcatParts
mod ScanParts
