-- The lemmas of this crate.
pub mod ScanLemmas
pub mod CountLemmas
pub mod FunctionLemmas
pub mod UnpivotLemmas
pub mod ExplodeLemmas
