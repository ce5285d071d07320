-- The lemmas of this crate.
pub mod FloatLemmas
pub mod DepthLemmas
pub mod TextLemmas
