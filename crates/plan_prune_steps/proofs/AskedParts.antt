-- What is asked where names are asked.
use Rattle.std.proofs.Common.{◌≡◌, List, [], ◌∷◌, length, refl}
use Rattle.plan_core.specs.Columns.{Columns}
use Rattle.plan_core.specs.Names.{with_names}
use Rattle.plan_expr.specs.declared.aexpr.AExpr.{AExpr}
use Rattle.plan_expr.specs.declared.expr_ir.ExprIR.{ExprIR}
use Rattle.plan_expr.specs.Exprs.{all_named_at}
use Rattle.plan_expr.specs.Leaves.{Name}
use Rattle.plan_frame.specs.ExprLists.{all_leaves}
use Rattle.plan_ir.specs.declared.functions.FunctionIR.{FunctionIR}
use Rattle.plan_meaning.specs.Asked.{function_names}
use Rattle.plan_pruned.specs.Pruned.{asked_with, held_names, mapped_names}
use Rattle.plan_prune_parts.specs.Kept.{asks_after}

pub with-some : (asked names : List Name) → (length asked ≡ 0 → ⊥) → with_names asked names ≡ asked_with asked names
with-some [] names h = absurd (h refl)
with-some (a ∷ asked) names h = refl

pub with-none : (asked names : List Name) → length asked ≡ 0 → asked ≡ asked_with asked names
with-none [] names h = refl
with-none (a ∷ asked) names h = cc

pub mapped-some : (asked : List Name) (function : FunctionIR) (s : Columns) → (length asked ≡ 0 → ⊥) → function_names function asked s ≡ mapped_names asked function s
mapped-some [] function s h = absurd (h refl)
mapped-some (a ∷ asked) function s h = refl

pub stacked-some : (ex : List AExpr) (asked : List Name) (es : List ExprIR) (s : Columns) → (length asked ≡ 0 → ⊥) → (length es ≡ 0 → ⊥) → with_names (held_names asked s) (all_leaves (all_named_at ex es)) ≡ asks_after asked (all_named_at ex es) s
stacked-some ex [] es s h k = absurd (h refl)
stacked-some ex (a ∷ asked) [] s h k = absurd (k refl)
stacked-some ex (a ∷ asked) (e ∷ es) s h k = refl
