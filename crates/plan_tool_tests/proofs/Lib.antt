mod Others
mod TrueOrs
mod TrueSides
