-- Checks on the expressions of a node, said of their numbers.
use Rattle.std.proofs.Common.{◌≡◌, ◌<◌, ◌≤◌, ◌+◌, arith, option_map, ℕ, zero, suc, Bool, All, take, unwrap_or, add-one, List, [], ◌∷◌, length, map, get_or, Some, is_some, sym, ap, ◌∙◌, subst}
use Rattle.std.specs.List.{slice_get}
use Rattle.std.proofs.lemmas.List.Elements.{All-get_or}
use Rattle.std.proofs.lemmas.Option.{slice_get-get_or, slice_get-map}
use Rattle.std.proofs.lemmas.List.{length-map}
use Rattle.plan_core.specs.Columns.{Columns, with_type}
use Rattle.plan_core.specs.declared.data_type.DataType.TheVariants.{Int64}
use Rattle.plan_core.specs.declared.error.At.{At}
use Rattle.plan_core.specs.declared.error.PolarsError.{PolarsError}
use Rattle.plan_core.specs.declared.error.PolarsError.TheVariants.{InvalidOperation, SchemaMismatch}
use Rattle.plan_expr.specs.declared.aexpr.AExpr.{AExpr}
use Rattle.plan_expr.specs.declared.expr_ir.ExprIR.{ExprIR}
use Rattle.plan_expr.specs.Operands.{IsExpr}
use Rattle.plan_expr.specs.Exprs.{Named, named_at, all_named_at, expr_at}
use Rattle.plan_ir.proofs.PlanLemmas.{map_twice}
use Rattle.plan_expr.specs.Forms.{has_form}
use Rattle.plan_expr.specs.Naming.{name_of}
use Rattle.plan_frame.specs.Exprs.{expr_type}
use Rattle.plan_meaning.specs.Checks.{each, each_new, form_checks, type_checks, plain_checks, is_plain_type, once_checks}
use Rattle.plan_frame.specs.Made.{made_schema}
use Rattle.plan_schema.proofs.CheckLemmas.{each-map}

module _ (ex : List AExpr) (es : List ExprIR) where
  -- a check on each expression
  pub named-each : (fault : At → PolarsError) (k : ℕ) (holds : Named → Bool) → each fault k holds (all_named_at ex es) ≡ each fault k (λ (e : ExprIR). holds (named_at ex e)) es
  named-each fault k holds = sym (each-map fault k holds (named_at ex) es)

  pub form-at : form_checks (all_named_at ex es) ≡ each InvalidOperation 1 (λ (e : ExprIR). has_form (expr_at ex e.node)) es
  unfolding form_checks
  form-at = sym (each-map InvalidOperation 1 (λ (n : Named). has_form n.expr) (named_at ex) es)

  pub type-at : (s : Columns) → type_checks (all_named_at ex es) s ≡ each SchemaMismatch 1 (λ (e : ExprIR). is_some (expr_type (expr_at ex e.node) s)) es
  unfolding type_checks
  type-at s = sym (each-map SchemaMismatch 1 (λ (n : Named). is_some (expr_type n.expr s)) (named_at ex) es)

  pub plain-at : (s : Columns) → plain_checks (all_named_at ex es) s ≡ each SchemaMismatch 1 (λ (e : ExprIR). is_plain_type (expr_type (expr_at ex e.node) s)) es
  unfolding plain_checks
  plain-at s = sym (each-map SchemaMismatch 1 (λ (n : Named). is_plain_type (expr_type n.expr s)) (named_at ex) es)

  pub once-at : once_checks (all_named_at ex es) ≡ each_new 1 [] (map (λ (e : ExprIR). name_of e.output_name) es)
  unfolding once_checks
  once-at = ap (each_new 1 []) (sym (map_twice (λ (n : Named). name_of n.name) (named_at ex) es))

  -- each expression stands
  pub stands_here : (i : ℕ) (e : ExprIR) → All (λ (x : ExprIR). IsExpr ex x.node) es → i < length es → e ≡ get_or es i e → IsExpr ex e.node
  stands_here i e h lt is = subst (λ (x : ExprIR). IsExpr ex x.node) (sym is) (All-get_or (λ (x : ExprIR). IsExpr ex x.node) es i e lt h)

-- the item in a place
pub item_here : {A : Type 0} (xs : List A) (i : ℕ) (x : A) → i < length xs → x ≡ get_or xs i x → slice_get xs i ≡ Some x
item_here xs i x lt is = slice_get-get_or xs i x lt ∙ ap (λ y. Some y) (sym is)

-- the columns of expressions, with those of one expression more
made_suc : (ex : List AExpr) (base : Columns) (es : List ExprIR) (s : Columns) (i : ℕ) (e : ExprIR) → slice_get es i ≡ Some e → with_type (made_schema base (all_named_at ex (take i es)) s) (name_of e.output_name) (unwrap_or (expr_type (expr_at ex e.node) s) Int64) ≡ made_schema base (all_named_at ex (take (suc i) es)) s
made_suc ex base [] s i e k = cc
made_suc ex base (x ∷ es) s zero e k = let q : e ≡ x = cc in ap (λ (y : ExprIR). with_type base (name_of y.output_name) (unwrap_or (expr_type (expr_at ex y.node) s) Int64)) q
made_suc ex base (x ∷ es) s (suc i) e k = made_suc ex (with_type base (name_of x.output_name) (unwrap_or (expr_type (expr_at ex x.node) s) Int64)) es s i e k

pub made-next : (ex : List AExpr) (base : Columns) (es : List ExprIR) (s : Columns) (i : ℕ) (e : ExprIR) → slice_get es i ≡ Some e → with_type (made_schema base (all_named_at ex (take i es)) s) (name_of e.output_name) (unwrap_or (expr_type (expr_at ex e.node) s) Int64) ≡ made_schema base (all_named_at ex (take (i + 1) es)) s
made-next ex base es s i e k = made_suc ex base es s i e k ∙ ap (λ (n : ℕ). made_schema base (all_named_at ex (take n es)) s) (sym (add-one i))

-- the output name in a place
pub name_here : (es : List ExprIR) (i : ℕ) (e : ExprIR) → i < length es → e ≡ get_or es i e → slice_get (map (λ (x : ExprIR). name_of x.output_name) es) i ≡ Some (name_of e.output_name)
name_here es i e lt is = slice_get-map (λ (x : ExprIR). name_of x.output_name) es i ∙ ap (option_map (λ (x : ExprIR). name_of x.output_name)) (item_here es i e lt is)

-- a place behind all expressions is behind all names
pub ended : (es : List ExprIR) (i : ℕ) → length es ≤ i → length (map (λ (x : ExprIR). name_of x.output_name) es) ≤ i
ended es i h = let same = length-map es (λ (x : ExprIR). name_of x.output_name) in omega (arith, same, h)
