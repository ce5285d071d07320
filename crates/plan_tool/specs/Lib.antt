-- The definitions that contracts cite.
pub mod Statuses
pub mod Stops
pub mod Commands
pub mod Limits
pub mod Checked
pub mod Rows
pub mod Listings
pub mod Answers
pub mod Verdicts
pub mod Causes
