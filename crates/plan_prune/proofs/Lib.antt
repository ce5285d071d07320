-- The lemmas of this crate.
pub mod PruneLemmas
mod ScanPruned
mod HStackPruned
mod SidePlans
mod EachLemmas
mod GroupPruned
mod ConcatPruned
mod ClosedPruned
mod JoinPruned
mod KnownSteps
mod TakenSteps
mod StepLemmas
pub mod PlanPruned
