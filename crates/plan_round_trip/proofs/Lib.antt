-- The lemmas of this crate.
pub mod Gives
pub mod Steps
pub mod Lists
pub mod Parts
pub mod Names
pub mod Pieces
pub mod Values
pub mod Literals
pub mod Told
pub mod Rows
pub mod Columns
pub mod Several
pub mod Scans
pub mod Joins
pub mod Functions
pub mod Exprs
pub mod Nodes
pub mod Plans
pub mod Reading
pub mod Documents
pub mod Canonicals
pub mod Moved
pub mod Trees
pub mod Renumbered
mod Distinct
mod ListedParts
mod ListedClusters
mod ListedColumns
mod ListedTrees
mod ListedScans
mod ListedJoins
mod Pruned
mod ListedRules
mod ListedOrders
mod Listed
