-- How deep the tree over a number is.
use Rattle.std.specs.Prelude.{◌≡◌, ℕ, List, [], ◌∷◌, Option, None, Some}
use Rattle.plan_core.specs.declared.arena.Node.{Node}
use Rattle.plan_tree.specs.Rose.{levels}
use Rattle.plan_tree.specs.Stands.{Shape, Trees, StandsOnce}

-- the levels of the tree over a number; none where no tree stands there
abbrev pub IsDepth : {P : Type 0} → Shape P → List P → Node → Option ℕ → Type 0
IsDepth {P = P} S lp n None = (t : Trees P) → StandsOnce S lp (n ∷ []) t → ⊥
IsDepth {P = P} S lp n (Some d) = (t : Trees P) × StandsOnce S lp (n ∷ []) t × (d ≡ levels t)
