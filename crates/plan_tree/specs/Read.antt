-- The trees that stand at numbers of an arena, read from it.
use Rattle.std.specs.Prelude.{ℕ, zero, suc, List, [], ◌∷◌, slice_get, length}
use Rattle.std.specs.Option.{option_map_or}
use Rattle.plan_core.specs.declared.arena.Node.{Node}
use Rattle.plan_tree.specs.Rose.{rose, no_roses, more, join}
use Rattle.plan_tree.specs.Stands.{Shape, Trees}

-- the trees that a function gives for each of the numbers, side by side
abbrev pub gather : {P : Type 0} → (Node → Trees P) → List Node → Trees P
gather read [] = no_roses
gather read (n ∷ ns) = join (read n) (gather read ns)

-- the tree at a number, cut below so many levels; no tree where the number is outside the arena
unfoldable pub tree_within : {P : Type 0} → Shape P → ℕ → List P → Node → Trees P
tree_within S zero lp n = no_roses
tree_within S (suc k) lp n = option_map_or (λ p. more (rose n p (gather (tree_within S k lp) (S.inputs p))) no_roses) (slice_get lp n.0) no_roses

-- the tree at a number
abbrev pub tree_at : {P : Type 0} → Shape P → List P → Node → Trees P
tree_at S lp n = tree_within S (length lp) lp n

-- the trees at numbers, side by side
abbrev pub trees_at : {P : Type 0} → Shape P → List P → List Node → Trees P
trees_at S lp ns = gather (tree_at S lp) ns
