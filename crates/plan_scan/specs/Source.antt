-- A source of a scan.
use Rattle.std.specs.Prelude.{ℕ, List}

-- one source: the file of a path, or the buffer of a number
pub data Source : Type 0 where
  file : List ℕ → Source
  buffer : ℕ → Source
