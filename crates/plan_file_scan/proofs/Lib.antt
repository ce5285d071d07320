-- The lemmas of this crate.
pub mod ScanFrames
pub mod NameLemmas
pub mod ScanColumns
pub mod ScanReads
pub mod LeftOutput
pub mod LeftFrames
