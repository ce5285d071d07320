-- The same names for each of some inputs.
use Rattle.std.proofs.Common.{◌≡◌, ℕ, zero, suc, ◌+◌, ◌<◌, List, [], ◌∷◌, ◌++◌, length, take, refl, ap, arith, add-one}
use Rattle.plan_core.specs.declared.arena.Node.{Node}
use Rattle.plan_expr.specs.Leaves.{Name}
use Rattle.plan_pruned.specs.Pruned.{names_alike}

-- there are as many lists as inputs
pub length-alike : (names : List Name) (ns : List Node) → length (names_alike names ns) ≡ length ns
length-alike names [] = refl
length-alike names (n ∷ ns) = ap suc (length-alike names ns)

-- with the next input
pub alike-next : (names : List Name) (ns : List Node) (i : ℕ) → i < length ns → names_alike names (take (i + 1) ns) ≡ names_alike names (take i ns) ++ names ∷ []
alike-next names ns i h = rw (add-one i) (go ns i h)
  where
    go : (ms : List Node) (j : ℕ) → j < length ms → names_alike names (take (suc j) ms) ≡ names_alike names (take j ms) ++ names ∷ []
    go [] j h = absurd (omega arith)
    go (m ∷ ms) zero h = refl
    go (m ∷ ms) (suc j) h = ap (λ (l : List (List Name)). names ∷ l) (go ms j (omega arith))
