-- The lemmas of this crate.
mod ExprSteps
pub mod ScalarExprs
pub mod NameSets
pub mod FrameLemmas
pub mod SameValues
pub mod Depends
mod Spreads
mod TypedValues
pub mod Sound
pub mod OrderLemmas
pub mod KeptRows
pub mod TurnLemmas
pub mod MadeColumns
pub mod GroupLemmas
pub mod MadeLemmas
pub mod BesideLemmas
pub mod ReshapedLemmas
mod Counts
