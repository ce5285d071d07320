-- The definitions that contracts cite.
pub mod Renamed
pub mod JoinPruned
pub mod Pruned
pub mod Reads
