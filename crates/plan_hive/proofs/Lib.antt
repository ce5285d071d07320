-- The lemmas of this crate.
pub mod EntryLemmas
pub mod FaultLemmas
pub mod PartLemmas
pub mod ValueLemmas
pub mod PartNames
pub mod PartitionLemmas
pub mod HiveLemmas
pub mod ColumnLemmas
