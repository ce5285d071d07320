-- The lemmas of this crate.
mod Places
mod MintermLists
mod SideFolds
mod KeyLemmas
mod Splitting
mod OwnNames
mod LongerExprs
mod AndLemmas
mod OperatorLemmas
mod RunMinterms
mod CrossLemmas
mod WayLemmas
