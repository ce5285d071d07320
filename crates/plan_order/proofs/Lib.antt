-- The lemmas of this crate.
mod CodeTurns
mod CountLemmas
mod CountStarLemmas
mod DemandLemmas
mod Demanded
mod EndLemmas
mod MemberLemmas
mod NodeExprs
mod OrderTrees
mod TogetherLemmas
mod TurnLemmas
