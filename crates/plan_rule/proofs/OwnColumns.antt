-- Columns under their own names, one after another.
use Rattle.std.proofs.Common.{◌≡◌, ℕ, ◌<◌, ◌≤◌, ◌+◌, ◌&&◌, Bool, true, false, not, List, ◌∷◌, length, drop, get_or, Some, sym, ap, ◌∙◌, subst}
use Rattle.std.specs.List.{slice_get}
use Rattle.plan_core.specs.declared.arena.Node.{Node}
use Rattle.std.proofs.lemmas.List.{drop_all, drop_more}
use Rattle.plan_expr.specs.declared.aexpr.AExpr.{AExpr}
use Rattle.plan_expr.specs.declared.expr_ir.ExprIR.{ExprIR}
use Rattle.plan_expr.specs.Exprs.{Expr, all_named_at, expr_op, named_at}
use Rattle.plan_expr.specs.Operands.{IsExpr}
use Rattle.plan_expr.proofs.ExprLemmas.{expr_open}
use Rattle.plan_meaning.specs.Work.{is_column_op, is_plain}
use Rattle.plan_pass_laws.specs.Answers.{are_own_columns, is_alias, is_own_column}

module _ (ex : List AExpr) (es : List ExprIR) (i : ℕ) where
  -- an expression more
  own_more : (e : ExprIR) → i < length es → e ≡ get_or es i e → are_own_columns (all_named_at ex (drop i es)) ≡ is_own_column (named_at ex e) && are_own_columns (all_named_at ex (drop (i + 1) es))
  own_more e lt is = ap (λ (l : List ExprIR). are_own_columns (all_named_at ex l)) (drop_more es i e lt ∙ ap (λ (x : ExprIR). x ∷ drop (i + 1) es) (sym is))

  pub own_next : (e : ExprIR) → i < length es → e ≡ get_or es i e → is_own_column (named_at ex e) ≡ true → are_own_columns (all_named_at ex es) ≡ are_own_columns (all_named_at ex (drop i es)) → are_own_columns (all_named_at ex es) ≡ are_own_columns (all_named_at ex (drop (i + 1) es))
  own_next e lt is own h = h ∙ own_more e lt is ∙ ap (λ (b : Bool). b && are_own_columns (all_named_at ex (drop (i + 1) es))) own

  pub own_not : (e : ExprIR) → i < length es → e ≡ get_or es i e → is_own_column (named_at ex e) ≡ false → are_own_columns (all_named_at ex es) ≡ are_own_columns (all_named_at ex (drop i es)) → false ≡ are_own_columns (all_named_at ex es)
  own_not e lt is own h = sym (h ∙ own_more e lt is ∙ ap (λ (b : Bool). b && are_own_columns (all_named_at ex (drop (i + 1) es))) own)

  pub own_end : length es ≤ i → are_own_columns (all_named_at ex es) ≡ are_own_columns (all_named_at ex (drop i es)) → true ≡ are_own_columns (all_named_at ex es)
  own_end le h = sym (h ∙ ap (λ (l : List ExprIR). are_own_columns (all_named_at ex l)) (drop_all i es le))

-- whether an expression is a column under its own name, by its entry
pub own_open : (ex : List AExpr) (e : ExprIR) (n : Node) (p : AExpr) → n ≡ e.node → IsExpr ex e.node → slice_get ex n.0 ≡ Some p → is_own_column (named_at ex e) ≡ is_column_op (expr_op p) && not (is_alias e.output_name)
own_open ex e n p is h entry = ap (λ (x : Expr). is_plain x && not (is_alias e.output_name)) (expr_open ex e.node p h (subst (λ (m : Node). slice_get ex m.0 ≡ Some p) is entry))
