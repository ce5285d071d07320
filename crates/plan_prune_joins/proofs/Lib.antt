-- The lemmas of this crate.
mod JoinParts
