-- Whether expressions are elementwise, or aggregates that ignore the order, one after another.
use Rattle.std.proofs.Common.{◌≡◌, ◌∙◌, ◌&&◌, Bool, true, false, List, [], ◌∷◌, ℕ, zero, suc, ◌+◌, take, Some, refl, sym, ap, add-one}
use Rattle.std.specs.List.{list_all, slice_get}
use Rattle.plan_core.specs.declared.arena.Node.{Node}
use Rattle.plan_tree.specs.Rose.{rose}
use Rattle.plan_expr.specs.declared.aexpr.AExpr.{AExpr}
use Rattle.plan_expr.specs.declared.aexpr.AExpr.TheVariants as exprs
use Rattle.plan_expr.specs.declared.agg.Aggregate.{Aggregate}
use Rattle.plan_expr.specs.declared.agg.IRAggExpr.{IRAggExpr}
use Rattle.plan_expr.specs.declared.expr_ir.ExprIR.{ExprIR}
use Rattle.plan_expr.specs.Aggregates.{agg_input, agg_op}
use Rattle.plan_expr.specs.Exprs.{all_named_at, expr_at, expr_op, exprs_at, Expr, Named}
use Rattle.plan_expr.specs.Operands.{operands_of, IsExpr}
use Rattle.plan_expr.specs.Walks.{reached, works_row_wise}
use Rattle.plan_expr.proofs.ExprLemmas.{expr_open, expr_down}
use Rattle.plan_meaning.specs.JoinChecks.{is_elementwise}
use Rattle.plan_check_parts.proofs.JoinLemmas.{elementwise_at}
use Rattle.plan_order_laws.specs.Elementwise.{all_elementwise, all_summaries, is_summary}
use Rattle.plan_order_laws.specs.Orderless.{ignores_order}

and_true : (b : Bool) → (b && true) ≡ b
and_true true = refl
and_true false = refl

-- expressions one after another
module _ (test : Expr → Bool) (all : List Named → Bool) (none : all [] ≡ true) (next : (e : Named) (es : List Named) → all (e ∷ es) ≡ (test e.expr && all es)) (ex : List AExpr) where
  one_more : (es : List ExprIR) (i : ℕ) (e : ExprIR) → slice_get es i ≡ Some e → all (all_named_at ex (take i es)) ≡ true → test (expr_at ex e.node) ≡ true → all (all_named_at ex (take (suc i) es)) ≡ true
  one_more [] i e k h good = cc
  one_more (x ∷ es) zero e k h good =
      let q : e ≡ x = cc in
      let s : test (expr_at ex x.node) ≡ true = rw (← q) good in
      next _ [] ∙ rw (s, none) refl
  one_more (x ∷ es) (suc i) e k h good = next _ _ ∙ go (test (expr_at ex x.node)) (sym (next _ _) ∙ h) (λ r. one_more es i e k r good)
    where
      go : (b : Bool) → (b && all (all_named_at ex (take i es))) ≡ true → (all (all_named_at ex (take i es)) ≡ true → all (all_named_at ex (take (suc i) es)) ≡ true) → (b && all (all_named_at ex (take (suc i) es))) ≡ true
      go true h f = f h
      go false h f = cc

  pub all_next : (es : List ExprIR) (i : ℕ) (e : ExprIR) → slice_get es i ≡ Some e → all (all_named_at ex (take i es)) ≡ true → test (expr_at ex e.node) ≡ true → all (all_named_at ex (take (i + 1) es)) ≡ true
  all_next es i e k h good = rw (add-one i) (one_more es i e k h good)

  pub all_bad : (es : List ExprIR) (i : ℕ) (e : ExprIR) → slice_get es i ≡ Some e → test (expr_at ex e.node) ≡ false → false ≡ all (all_named_at ex es)
  all_bad [] i e k bad = cc
  all_bad (x ∷ es) zero e k bad =
      let q : e ≡ x = cc in
      let s : test (expr_at ex x.node) ≡ false = rw (← q) bad in
      sym (next _ _ ∙ rw s refl)
  all_bad (x ∷ es) (suc i) e k bad = go (test (expr_at ex x.node)) (all_bad es i e k bad) ∙ sym (next _ _)
    where
      go : (b : Bool) → false ≡ all (all_named_at ex es) → false ≡ (b && all (all_named_at ex es))
      go true h = h
      go false h = refl

pub elementwise_next : (ex : List AExpr) (es : List ExprIR) (i : ℕ) (e : ExprIR) → slice_get es i ≡ Some e → all_elementwise (all_named_at ex (take i es)) ≡ true → is_elementwise (expr_at ex e.node) ≡ true → all_elementwise (all_named_at ex (take (i + 1) es)) ≡ true
elementwise_next ex = all_next is_elementwise all_elementwise refl (λ e es. refl) ex

pub elementwise_bad : (ex : List AExpr) (es : List ExprIR) (i : ℕ) (e : ExprIR) → slice_get es i ≡ Some e → is_elementwise (expr_at ex e.node) ≡ false → false ≡ all_elementwise (all_named_at ex es)
elementwise_bad ex = all_bad is_elementwise all_elementwise refl (λ e es. refl) ex

pub summaries_next : (ex : List AExpr) (es : List ExprIR) (i : ℕ) (e : ExprIR) → slice_get es i ≡ Some e → all_summaries (all_named_at ex (take i es)) ≡ true → is_summary (expr_at ex e.node) ≡ true → all_summaries (all_named_at ex (take (i + 1) es)) ≡ true
summaries_next ex = all_next is_summary all_summaries refl (λ e es. refl) ex

pub summaries_bad : (ex : List AExpr) (es : List ExprIR) (i : ℕ) (e : ExprIR) → slice_get es i ≡ Some e → is_summary (expr_at ex e.node) ≡ false → false ≡ all_summaries (all_named_at ex es)
summaries_bad ex = all_bad is_summary all_summaries refl (λ e es. refl) ex

-- an aggregate
pub agg_down : (ex : List AExpr) (n : Node) (a : IRAggExpr) → IsExpr ex n → slice_get ex n.0 ≡ Some (exprs.Agg a) → IsExpr ex (agg_input a)
agg_down ex n a h e = let d = expr_down ex n (agg_input a) (exprs.Agg a) 0 h e refl in d.1

pub agg_summary : (ex : List AExpr) (n : Node) (a : IRAggExpr) → IsExpr ex n → slice_get ex n.0 ≡ Some (exprs.Agg a) → is_summary (expr_at ex n) ≡ (ignores_order (agg_op a) && is_elementwise (expr_at ex (agg_input a)))
agg_summary ex n a h e =
    ap is_summary (expr_open ex n (exprs.Agg a) h e) ∙ ap (λ (b : Bool). ignores_order (agg_op a) && b) (and_true (is_elementwise (expr_at ex (agg_input a))))

pub other_summary : (ex : List AExpr) (n : Node) (p : AExpr) → IsExpr ex n → slice_get ex n.0 ≡ Some p → ((a : IRAggExpr) → p ≡ exprs.Agg a → ⊥) → false ≡ is_summary (expr_at ex n)
other_summary ex n p h e no_agg = sym (ap is_summary (expr_open ex n p h e) ∙ of p no_agg)
  where
    of : (p : AExpr) → ((a : IRAggExpr) → p ≡ exprs.Agg a → ⊥) → is_summary (rose tt (expr_op p) (exprs_at ex (operands_of p))) ≡ false
    of (exprs.Column name) far = refl
    of (exprs.Literal value) far = refl
    of (exprs.Alias input name) far = refl
    of (exprs.BinaryExpr left op right) far = refl
    of (exprs.Ternary predicate truthy falsy) far = refl
    of (exprs.Agg agg) far = absurd (far agg refl)
    of (exprs.Function input function options) far = refl
    of (exprs.Window function partition_by) far = refl
    of exprs.Len far = refl

-- what the code finds of an aggregate
pub summary_if : (ex : List AExpr) (n : Node) (a : IRAggExpr) → IsExpr ex n → slice_get ex n.0 ≡ Some (exprs.Agg a) → (i : Node) → i ≡ agg_input a → (o : Aggregate) → o ≡ agg_op a → (b : Bool) → b ≡ ignores_order o → b ≡ true → (r : Bool) → r ≡ list_all works_row_wise (reached ex i) → r ≡ is_summary (expr_at ex n)
summary_if ex n a h e i i_is o o_is b b_is on r r_is =
    let t : ignores_order (agg_op a) ≡ true = ap ignores_order (sym o_is) ∙ sym b_is ∙ on in
    r_is ∙ ap (λ (k : Node). list_all works_row_wise (reached ex k)) i_is ∙ elementwise_at ex (agg_input a) (agg_down ex n a h e)
    ∙ sym (agg_summary ex n a h e ∙ ap (λ (x : Bool). x && is_elementwise (expr_at ex (agg_input a))) t)

pub summary_not : (ex : List AExpr) (n : Node) (a : IRAggExpr) → IsExpr ex n → slice_get ex n.0 ≡ Some (exprs.Agg a) → (o : Aggregate) → o ≡ agg_op a → (b : Bool) → b ≡ ignores_order o → b ≡ false → b ≡ is_summary (expr_at ex n)
summary_not ex n a h e o o_is b b_is off =
    let t : ignores_order (agg_op a) ≡ false = ap ignores_order (sym o_is) ∙ sym b_is ∙ off in
    off ∙ sym (agg_summary ex n a h e ∙ ap (λ (x : Bool). x && is_elementwise (expr_at ex (agg_input a))) t)
