-- The lemmas of this crate.
mod AnswerLemmas
mod CheckLemmas
mod CommandLemmas
mod VerdictLemmas
