-- The lemmas of this crate.
pub mod KeyLemmas
mod OriginLemmas
mod AskLemmas
mod KeyTests
mod NameLemmas
mod JoinLongerLemmas
mod ConditionLemmas
mod TopLemmas
mod ListSteps
mod RenameLemmas
pub mod PlaceLemmas
pub mod LongerLemmas
pub mod KeptLemmas
mod StandInLemmas
mod ExprWalks
pub mod CoverLemmas
