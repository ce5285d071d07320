-- The lemmas of this crate.
mod StackLemmas
mod ColumnLemmas
mod MadeLemmas
mod GivenLemmas
mod TurnLemmas
mod PlanLemmas
mod PartLemmas
mod DistinctLemmas
mod GroupLemmas
mod BesideLemmas
mod JoinLemmas
mod SortLemmas
mod PickLemmas
