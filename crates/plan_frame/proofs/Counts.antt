-- Expressions that are the number of rows alone.
use Rattle.std.proofs.Common.{◌≡◌, ◌<◌, ◌≤◌, true, false, All, List, [], ◌∷◌, length, Some, refl, sym, ap, ◌∙◌, arith, subst}
use Rattle.std.specs.List.{slice_get, slice_index_or}
use Rattle.plan_tree.specs.Rose.{rose}
use Rattle.plan_expr.specs.declared.aexpr.AExpr.{AExpr}
use Rattle.plan_expr.specs.declared.aexpr.AExpr.TheVariants.{Column, Literal, Alias, BinaryExpr, Ternary, Agg, Function, Window, Len}
use Rattle.plan_expr.specs.declared.expr_ir.ExprIR.{ExprIR}
use Rattle.plan_expr.specs.Exprs.{expr_op, exprs_at, all_named_at}
use Rattle.plan_expr.specs.Operands.{IsExpr, operands_of}
use Rattle.plan_expr.proofs.ExprLemmas.{expr_open}
use Rattle.plan_frame.specs.ExprLists.{is_len, counts_rows}

one_item : (es : List ExprIR) (e : ExprIR) → 1 ≤ length es → length es < 2 → e ≡ slice_index_or es 0 e → es ≡ e ∷ []
one_item [] e some few is = absurd (omega (arith, some))
one_item (x ∷ []) e some few is = ap (λ (y : ExprIR). y ∷ []) (sym is)
one_item (x ∷ y ∷ es) e some few is = absurd (omega (arith, few))

-- kind by kind
other_len : (p : AExpr) (ex : List AExpr) → (p ≡ Len → ⊥) → false ≡ is_len (rose tt (expr_op p) (exprs_at ex (operands_of p)))
other_len (Column name) ex h = refl
other_len (Literal value) ex h = refl
other_len (Alias input name) ex h = refl
other_len (BinaryExpr left op right) ex h = refl
other_len (Ternary predicate truthy falsy) ex h = refl
other_len (Agg agg) ex h = refl
other_len (Function input function options) ex h = refl
other_len (Window function partition_by) ex h = refl
other_len Len ex h = absurd (h refl)

module _ (ex : List AExpr) (es : List ExprIR) (e : ExprIR) (p : AExpr) (some : 1 ≤ length es) (few : length es < 2) (is : e ≡ slice_index_or es 0 e) (stand : All (λ (x : ExprIR). IsExpr ex x.node) es) (entry : slice_get ex e.node.0 ≡ Some p) where
  one : es ≡ e ∷ []
  one = one_item es e some few is

  stands : IsExpr ex e.node
  stands = subst (λ (l : List ExprIR). All (λ (x : ExprIR). IsExpr ex x.node) l) one stand 0 e (omega arith)

  by_entry : is_len (rose tt (expr_op p) (exprs_at ex (operands_of p))) ≡ counts_rows (all_named_at ex es)
  by_entry = ap is_len (sym (expr_open ex e.node p stands entry)) ∙ ap (λ (l : List ExprIR). counts_rows (all_named_at ex l)) (sym one)

  pub one_len : p ≡ Len → true ≡ counts_rows (all_named_at ex es)
  one_len same = ap (λ (q : AExpr). is_len (rose tt (expr_op q) (exprs_at ex (operands_of q)))) (sym same) ∙ by_entry

  pub one_other : (p ≡ Len → ⊥) → false ≡ counts_rows (all_named_at ex es)
  one_other other = other_len p ex other ∙ by_entry
