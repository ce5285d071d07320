pub mod TrueSides
