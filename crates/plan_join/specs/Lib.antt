-- The definitions that contracts cite.
pub mod Naming
pub mod Origins
pub mod Told
pub mod Pairs
pub mod Orders
pub mod Rows
pub mod Given
pub mod Sides
pub mod Joined
pub mod Matching
pub mod OwnOrders
