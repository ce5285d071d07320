-- The lemmas of this crate.
pub mod KeptPlans
pub mod BesideBecome
pub mod CachesLeft
pub mod ScanLists
pub mod WholeCuts
pub mod SmallerBelow
pub mod ClearedPlans
pub mod AnswerViews
pub mod CollapseRefines
pub mod FilterRefines
pub mod FlattenRefines
pub mod AnswerLaws
pub mod AlikeAnswers
pub mod ClearedPatterns
pub mod WalksOne
pub mod WalkCaches
pub mod Reworked
