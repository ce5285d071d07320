-- The lemmas of this crate.
pub mod PlanLemmas
pub mod EntryLemmas
pub mod RenumberedLemmas
pub mod WalkLemmas
pub mod PartLemmas
