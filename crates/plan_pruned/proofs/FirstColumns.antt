-- Columns of which each name is the first: they are all where no name comes twice.
use Rattle.std.proofs.Common.{◌≡◌, ◌∙◌, false, [], ◌∷◌, ◌++◌, fold, sym, ap, refl, append_assoc, append-nil, subst}
use Rattle.plan_core.specs.declared.data_type.DataType.{DataType}
use Rattle.plan_core.specs.Columns.{Columns, HasDistinctNames, names_of}
use Rattle.plan_core.specs.Names.{has}
use Rattle.plan_expr.specs.Leaves.{Name}
use Rattle.plan_frame.specs.Beside.{with_new}
use Rattle.plan_join.proofs.ColumnLemmas.{is_new}
use Rattle.plan_pruned.specs.JoinPruned.{first_of_each}

-- a name that isn't there goes last
pub with_new-last : (s : Columns) (c : Name × DataType) → has (names_of s) c.0 ≡ false → with_new s c ≡ s ++ c ∷ []
with_new-last s c h = rw h refl

distinct_on : (done cs : Columns) → HasDistinctNames (done ++ cs) → fold with_new done cs ≡ done ++ cs
distinct_on done [] h = sym (append-nil done)
distinct_on done (c ∷ cs) h =
    ap (λ (s : Columns). fold with_new s cs) (with_new-last done c (is_new done c.0 c.1 cs h))
    ∙ distinct_on (done ++ c ∷ []) cs (subst HasDistinctNames (sym (append_assoc done (c ∷ []) cs)) h)
    ∙ append_assoc done (c ∷ []) cs

-- of columns whose names differ the first of each are all
pub first-distinct : (cs : Columns) → HasDistinctNames cs → first_of_each cs ≡ cs
first-distinct cs h = distinct_on [] cs h
