-- The definitions that contracts cite.
pub mod FilteredPairs
pub mod FilteredFrames
pub mod CrossKeys
pub mod Predicates
pub mod TakenKeys
pub mod Sites
pub mod Collapsed
pub mod WorkedJoins
pub mod Additions
pub mod Staying
pub mod Meeting
pub mod Counts
pub mod Clusters
pub mod Runs
pub mod Clustered
pub mod Cached
pub mod Worked
