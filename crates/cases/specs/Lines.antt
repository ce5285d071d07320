-- The bytes of a line.
use Rattle.std.specs.Prelude.{ℕ, List, [], ◌∷◌, ◌++◌}

-- a text with the end of its line; nothing for an empty text
abbrev pub line_of : List ℕ → List ℕ
line_of [] = []
line_of (c ∷ cs) = (c ∷ cs) ++ (10 ∷ [])
