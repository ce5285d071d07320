-- Names added one after another.
use Rattle.std.proofs.Common.{◌≡◌, ℕ, zero, suc, ◌+◌, List, [], ◌∷◌, take, Some, ap, sym, ◌∙◌, add-one}
use Rattle.std.specs.List.{slice_get}
use Rattle.plan_core.specs.Names.{with_name, with_names}
use Rattle.plan_expr.specs.Leaves.{Name}

added_suc : (done names : List Name) (i : ℕ) (a : Name) → slice_get names i ≡ Some a → with_name (with_names done (take i names)) a ≡ with_names done (take (suc i) names)
added_suc done [] i a e = cc
added_suc done (b ∷ names) zero a e = let q : a ≡ b = cc in ap (with_name done) q
added_suc done (b ∷ names) (suc i) a e = added_suc (with_name done b) names i a e

-- one name more
pub added-next : (done names : List Name) (i : ℕ) (a : Name) → slice_get names i ≡ Some a → with_name (with_names done (take i names)) a ≡ with_names done (take (i + 1) names)
added-next done names i a e = added_suc done names i a e ∙ ap (λ (n : ℕ). with_names done (take n names)) (sym (add-one i))
