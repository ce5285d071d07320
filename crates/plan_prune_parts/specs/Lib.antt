-- The definitions that contracts cite.
pub mod Origins
pub mod Left
pub mod Kept
pub mod Places
pub mod Said
pub mod Steps
pub mod Tops
