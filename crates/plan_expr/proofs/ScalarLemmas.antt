-- Whether expressions are scalar, by whether their operands are.
use Rattle.std.proofs.Common.{◌≡◌, ◌&&◌, ℕ, ◌+◌, ◌≤◌, Bool, true, false, List, [], ◌∷◌, length, take, Some, refl, sym, ap, ap₂, ◌∙◌}
use Rattle.std.specs.List.{slice_get, list_all}
use Rattle.std.proofs.lemmas.List.{take_all}
use Rattle.std.proofs.lemmas.List.Folds.{list_all_at, list_all_more}
use Rattle.std.proofs.lemmas.Option.{slice_get_within, get_or_from_slice_get}
use Rattle.plan_core.specs.declared.arena.Node.{Node}
use Rattle.plan_expr.specs.declared.aexpr.AExpr.{AExpr}
use Rattle.plan_expr.specs.Operands.{IsExpr, operands_of}
use Rattle.plan_expr.specs.Exprs.{expr_op, expr_at, exprs_at}
use Rattle.plan_expr.proofs.ExprLemmas.{expr_open}
use Rattle.plan_expr.specs.Scalars.{is_scalar, are_scalar, scalar_by}

are-scalar-at : (ex : List AExpr) (ns : List Node) → are_scalar (exprs_at ex ns) ≡ list_all (λ (m : Node). is_scalar (expr_at ex m)) ns
are-scalar-at ex [] = refl
are-scalar-at ex (n ∷ ns) = ap (λ (b : Bool). is_scalar (expr_at ex n) && b) (are-scalar-at ex ns)

-- an expression is scalar by whether its operands all are
pub scalar-open : (ex : List AExpr) (n : Node) (p : AExpr) → IsExpr ex n → slice_get ex n.0 ≡ Some p → is_scalar (expr_at ex n) ≡ scalar_by (expr_op p) (list_all (λ (m : Node). is_scalar (expr_at ex m)) (operands_of p))
scalar-open ex n p h e = ap is_scalar (expr_open ex n p h e) ∙ ap (scalar_by (expr_op p)) (are-scalar-at ex (operands_of p))

-- a test of one thing after another, until one fails
module _ {X : Type 0} (test : X → Bool) where
  pub tests_fail : (xs : List X) (i : ℕ) (x : X) → slice_get xs i ≡ Some x → test x ≡ false → list_all test xs ≡ false
  tests_fail xs i x e f = list_all_at test xs i x (slice_get_within xs i x e) (ap test (get_or_from_slice_get xs i x x e) ∙ f)

  pub tests_more : (xs : List X) (i : ℕ) (x : X) → slice_get xs i ≡ Some x → list_all test (take i xs) ≡ true → test x ≡ true → list_all test (take (i + 1) xs) ≡ true
  tests_more xs i x e all t =
      list_all_more test xs i x (slice_get_within xs i x e)
      ∙ ap₂ (λ (a b : Bool). a && b) all (ap test (get_or_from_slice_get xs i x x e) ∙ t)

  pub tests_end : (xs : List X) (i : ℕ) → length xs ≤ i → list_all test (take i xs) ≡ true → list_all test xs ≡ true
  tests_end xs i past all = ap (list_all test) (sym (take_all i xs past)) ∙ all
