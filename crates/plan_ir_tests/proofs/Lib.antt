-- The lemmas of these tests.
mod Again
