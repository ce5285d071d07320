-- The definitions that contracts cite.
pub mod Becoming
pub mod CachesLeft
pub mod Weights
pub mod Answers
pub mod AnswerCases
pub mod Patterns
pub mod Clearing
pub mod Walks
pub mod Settling
