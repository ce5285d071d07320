-- Texts between brackets, with commas.
use Rattle.std.specs.Prelude.{ℕ, List, [], ◌∷◌, ◌++◌, codes}

-- the texts, with a comma and a space between each two of them
abbrev pub separated : List (List ℕ) → List ℕ
separated [] = []
separated (x ∷ []) = x
separated (x ∷ y ∷ xs) = x ++ codes ", " ++ separated (y ∷ xs)

-- the texts so, between brackets
abbrev pub bracketed : List (List ℕ) → List ℕ
bracketed xs = codes "(" ++ separated xs ++ codes ")"
