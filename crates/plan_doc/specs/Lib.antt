-- The definitions that contracts cite.
pub mod Built
pub mod Tables
pub mod Document
pub mod Exprs
