-- The definitions that contracts cite.
pub mod FileFrames
pub mod Left
