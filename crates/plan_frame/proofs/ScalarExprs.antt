-- Whether expressions are scalar, one after another.
use Rattle.std.proofs.Common.{◌≡◌, ◌<◌, All, get_or, length, subst, ℕ, zero, suc, ◌+◌, ◌&&◌, Bool, true, false, List, [], ◌∷◌, take, Some, refl, sym, ap, ◌∙◌, add-one}
use Rattle.std.specs.List.{slice_get}
use Rattle.std.proofs.lemmas.List.Elements.{All-get_or}
use Rattle.std.proofs.lemmas.Option.{slice_get-get_or}
use Rattle.plan_expr.specs.declared.aexpr.AExpr.{AExpr}
use Rattle.plan_expr.specs.declared.expr_ir.ExprIR.{ExprIR}
use Rattle.plan_expr.specs.Operands.{IsExpr}
use Rattle.plan_expr.specs.Exprs.{expr_at, all_named_at}
use Rattle.plan_expr.specs.Scalars.{is_scalar}
use Rattle.plan_frame.specs.ExprLists.{all_scalar}

-- the item in a place
pub item_here : {A : Type 0} (xs : List A) (i : ℕ) (x : A) → i < length xs → x ≡ get_or xs i x → slice_get xs i ≡ Some x
item_here xs i x lt is = slice_get-get_or xs i x lt ∙ ap (λ y. Some y) (sym is)

-- each expression stands
pub stands_here : (ex : List AExpr) (es : List ExprIR) (i : ℕ) (e : ExprIR) → All (λ (x : ExprIR). IsExpr ex x.node) es → i < length es → e ≡ get_or es i e → IsExpr ex e.node
stands_here ex es i e h lt is = subst (λ (x : ExprIR). IsExpr ex x.node) (sym is) (All-get_or (λ (x : ExprIR). IsExpr ex x.node) es i e lt h)

-- expressions one after another
module _ (ex : List AExpr) where
  scalars_suc : (es : List ExprIR) (i : ℕ) (e : ExprIR) → slice_get es i ≡ Some e → all_scalar (all_named_at ex (take i es)) ≡ true → is_scalar (expr_at ex e.node) ≡ true → all_scalar (all_named_at ex (take (suc i) es)) ≡ true
  scalars_suc [] i e k h good = cc
  scalars_suc (x ∷ es) zero e k h good = let q : e ≡ x = cc in (let s : is_scalar (expr_at ex x.node) ≡ true = rw (← q) good in rw s refl)
  scalars_suc (x ∷ es) (suc i) e k h good = go (is_scalar (expr_at ex x.node)) h (λ r. scalars_suc es i e k r good)
    where
      go : (b : Bool) → (b && all_scalar (all_named_at ex (take i es))) ≡ true → (all_scalar (all_named_at ex (take i es)) ≡ true → all_scalar (all_named_at ex (take (suc i) es)) ≡ true) → (b && all_scalar (all_named_at ex (take (suc i) es))) ≡ true
      go true h f = f h
      go false h f = cc

  pub scalars-next : (es : List ExprIR) (i : ℕ) (e : ExprIR) → slice_get es i ≡ Some e → all_scalar (all_named_at ex (take i es)) ≡ true → is_scalar (expr_at ex e.node) ≡ true → all_scalar (all_named_at ex (take (i + 1) es)) ≡ true
  scalars-next es i e k h good = rw (add-one i) (scalars_suc es i e k h good)

  pub scalars-bad : (es : List ExprIR) (i : ℕ) (e : ExprIR) → slice_get es i ≡ Some e → is_scalar (expr_at ex e.node) ≡ false → false ≡ all_scalar (all_named_at ex es)
  scalars-bad [] i e k bad = cc
  scalars-bad (x ∷ es) zero e k bad = let q : e ≡ x = cc in (let s : is_scalar (expr_at ex x.node) ≡ false = rw (← q) bad in rw s refl)
  scalars-bad (x ∷ es) (suc i) e k bad = go (is_scalar (expr_at ex x.node)) (scalars-bad es i e k bad)
    where
      go : (b : Bool) → false ≡ all_scalar (all_named_at ex es) → false ≡ (b && all_scalar (all_named_at ex es))
      go true h = h
      go false h = refl
