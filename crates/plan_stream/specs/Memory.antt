-- What a source and a sink in memory are.
use Rattle.std.specs.Prelude.{ℕ, List, Bool}

-- the bytes left, and how many a call gives at the most
pub record Giving : Type 0 where
  pub left : List ℕ
  pub piece : ℕ

-- the bytes held, how many fit in all, how often it failed, and whether nothing was written since the last flush
pub record Holding : Type 0 where
  pub held : List ℕ
  pub room : ℕ
  pub faults : ℕ
  pub clean : Bool

-- a reader of the library's, and how often it failed
pub record Reading (R : Type 0) : Type 0 where
  pub reader : R
  pub faults : ℕ

-- a writer of the library's, how often it failed, and whether nothing was written since the last flush
pub record Writing (W : Type 0) : Type 0 where
  pub writer : W
  pub faults : ℕ
  pub clean : Bool
