-- The definitions that contracts cite.
pub mod Calls
pub mod Sought
pub mod Joined
pub mod TakenUp
