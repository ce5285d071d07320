-- The lemmas of this crate.
mod AmongLemmas
pub mod FunctionLemmas
pub mod KnownLemmas
pub mod MoveLemmas
pub mod PlaceSteps
mod RenamingParts
mod ReplaceLemmas
pub mod TypeLemmas
