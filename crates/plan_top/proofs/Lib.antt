pub mod UnsortedPlans
pub mod CountEnds
pub mod CountReads
pub mod ChainLaws
pub mod ChainReads
pub mod Chaining
pub mod PrunedPlaces
pub mod Members
