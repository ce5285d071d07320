-- Expressions are the same tree just where they are equal.
use Rattle.std.proofs.Common.{◌≡◌, ◌∙◌, ℕ, zero, suc, ◌+◌, Bool, true, false, ◌&&◌, List, [], ◌∷◌, take, Option, Some, None, refl, sym, ap, ap₂, subst, arith}
use Rattle.std.specs.Prelude.{IsTrue, ◌↔◌, is_none}
use Rattle.std.specs.List.{slice_get}
use Rattle.std.proofs.lemmas.Bool.{and_parts}
use Rattle.plan_core.specs.declared.arena.Node.{Node}
use Rattle.plan_tree.specs.Rose.{Roses, rose, no_roses, more}
use Rattle.plan_expr.specs.declared.aexpr.AExpr.{AExpr}
use Rattle.plan_expr.specs.Exprs.{ExprOp, Expr, expr_at, expr_op, exprs_at}
use Rattle.plan_expr.specs.Operands.{IsExpr, operands_of}
use Rattle.plan_expr.proofs.ExprLemmas.{expr_open}
use Rattle.plan_expr.specs.Same.{same_op, same_tree, same_trees}
use Rattle.plan_expr.proofs.SameOps.{both, op_is, op_same}

mutual
  tree_is : (x y : Expr) → same_tree x y ≡ true → x ≡ y
  tree_is (rose m o xs) (rose n p ys) e = let q = and_parts (same_op o p) (same_trees xs ys) e in ap₂ (λ (a : ExprOp) (b : Roses (Unit {0}) ExprOp). rose tt a b) (op_is o p q.0) (trees_are xs ys q.1)

  trees_are : (xs ys : Roses (Unit {0}) ExprOp) → same_trees xs ys ≡ true → xs ≡ ys
  trees_are no_roses no_roses e = refl
  trees_are (more x xs) (more y ys) e = let q = and_parts (same_tree x y) (same_trees xs ys) e in ap₂ (λ (a : Expr) (b : Roses (Unit {0}) ExprOp). more a b) (tree_is x y q.0) (trees_are xs ys q.1)
  trees_are no_roses (more y ys) e = cc
  trees_are (more x xs) no_roses e = cc

mutual
  tree_same : (x : Expr) → same_tree x x ≡ true
  tree_same (rose m o xs) = both (same_op o o) (same_trees xs xs) (op_same o) (trees_same xs)

  trees_same : (xs : Roses (Unit {0}) ExprOp) → same_trees xs xs ≡ true
  trees_same no_roses = refl
  trees_same (more x xs) = both (same_tree x x) (same_trees xs xs) (tree_same x) (trees_same xs)

-- a test that decides whether two expressions are equal
pub same_tree_is : (x y : Expr) → IsTrue (same_tree x y) ↔ (x ≡ y)
same_tree_is x y = (λ h. tree_is x y h, λ e. subst (λ (z : Expr). same_tree x z ≡ true) e (tree_same x))

-- Two expressions whose operands are gone through one after another

pub same_open : (ex : List AExpr) (m n : Node) (a b : AExpr) → IsExpr ex m → IsExpr ex n → slice_get ex m.0 ≡ Some a → slice_get ex n.0 ≡ Some b → same_tree (expr_at ex m) (expr_at ex n) ≡ (same_op (expr_op a) (expr_op b) && same_trees (exprs_at ex (operands_of a)) (exprs_at ex (operands_of b)))
same_open ex m n a b h k e f = ap₂ same_tree (expr_open ex m a h e) (expr_open ex n b k f)

-- the first of some operands are the same in pairs
same_more : (ex : List AExpr) (ms ns : List Node) (i : ℕ) (m n : Node) → slice_get ms i ≡ Some m → slice_get ns i ≡ Some n → same_tree (expr_at ex m) (expr_at ex n) ≡ true → same_trees (exprs_at ex (take i ms)) (exprs_at ex (take i ns)) ≡ true → same_trees (exprs_at ex (take (suc i) ms)) (exprs_at ex (take (suc i) ns)) ≡ true
same_more ex [] ns i m n e f s h = cc
same_more ex (x ∷ ms) [] i m n e f s h = cc
same_more ex (x ∷ ms) (y ∷ ns) zero m n e f s h =
    let p : x ≡ m = cc in
    let q : y ≡ n = cc in
    both (same_tree (expr_at ex x) (expr_at ex y)) true (ap₂ (λ (u v : Node). same_tree (expr_at ex u) (expr_at ex v)) p q ∙ s) refl
same_more ex (x ∷ ms) (y ∷ ns) (suc i) m n e f s h =
    let parts = and_parts (same_tree (expr_at ex x) (expr_at ex y)) (same_trees (exprs_at ex (take i ms)) (exprs_at ex (take i ns))) h in
    both (same_tree (expr_at ex x) (expr_at ex y)) (same_trees (exprs_at ex (take (suc i) ms)) (exprs_at ex (take (suc i) ns))) parts.0 (same_more ex ms ns i m n e f s parts.1)

pub same_next : (ex : List AExpr) (ms ns : List Node) (i : ℕ) (m n : Node) → slice_get ms i ≡ Some m → slice_get ns i ≡ Some n → same_tree (expr_at ex m) (expr_at ex n) ≡ true → same_trees (exprs_at ex (take i ms)) (exprs_at ex (take i ns)) ≡ true → same_trees (exprs_at ex (take (i + 1) ms)) (exprs_at ex (take (i + 1) ns)) ≡ true
same_next ex ms ns i m n e f s h =
    let next : i + 1 ≡ suc i = omega arith in
    ap (λ (k : ℕ). same_trees (exprs_at ex (take k ms)) (exprs_at ex (take k ns))) next ∙ same_more ex ms ns i m n e f s h

pub not_both : (a b : Bool) → a ≡ false → (a && b) ≡ false
not_both true b e = cc
not_both false b e = refl

pub not_second : (a b : Bool) → b ≡ false → (a && b) ≡ false
not_second true b e = e
not_second false b e = refl

-- operands that differ in one place differ
pub differ_there : (ex : List AExpr) (ms ns : List Node) (i : ℕ) (m n : Node) → slice_get ms i ≡ Some m → slice_get ns i ≡ Some n → same_tree (expr_at ex m) (expr_at ex n) ≡ false → same_trees (exprs_at ex ms) (exprs_at ex ns) ≡ false
differ_there ex [] ns i m n e f s = cc
differ_there ex (x ∷ ms) [] i m n e f s = cc
differ_there ex (x ∷ ms) (y ∷ ns) zero m n e f s =
    let p : x ≡ m = cc in
    let q : y ≡ n = cc in
    not_both (same_tree (expr_at ex x) (expr_at ex y)) (same_trees (exprs_at ex ms) (exprs_at ex ns)) (ap₂ (λ (u v : Node). same_tree (expr_at ex u) (expr_at ex v)) p q ∙ s)
differ_there ex (x ∷ ms) (y ∷ ns) (suc i) m n e f s = not_second (same_tree (expr_at ex x) (expr_at ex y)) (same_trees (exprs_at ex ms) (exprs_at ex ns)) (differ_there ex ms ns i m n e f s)

-- operands of which only some are there differ
pub differ_behind : (ex : List AExpr) (ms ns : List Node) (i : ℕ) (m : Node) → slice_get ms i ≡ Some m → slice_get ns i ≡ None → same_trees (exprs_at ex ms) (exprs_at ex ns) ≡ false
differ_behind ex [] ns i m e f = cc
differ_behind ex (x ∷ ms) [] i m e f = refl
differ_behind ex (x ∷ ms) (y ∷ ns) zero m e f = cc
differ_behind ex (x ∷ ms) (y ∷ ns) (suc i) m e f = not_second (same_tree (expr_at ex x) (expr_at ex y)) (same_trees (exprs_at ex ms) (exprs_at ex ns)) (differ_behind ex ms ns i m e f)

pub differ_before : (ex : List AExpr) (ms ns : List Node) (i : ℕ) (n : Node) → slice_get ms i ≡ None → slice_get ns i ≡ Some n → same_trees (exprs_at ex ms) (exprs_at ex ns) ≡ false
differ_before ex ms [] i n e f = cc
differ_before ex [] (y ∷ ns) i n e f = refl
differ_before ex (x ∷ ms) (y ∷ ns) zero n e f = cc
differ_before ex (x ∷ ms) (y ∷ ns) (suc i) n e f = not_second (same_tree (expr_at ex x) (expr_at ex y)) (same_trees (exprs_at ex ms) (exprs_at ex ns)) (differ_before ex ms ns i n e f)

-- operands that are the same up to the end of both are the same
pub same_end : (ex : List AExpr) (ms ns : List Node) (i : ℕ) → slice_get ms i ≡ None → slice_get ns i ≡ None → same_trees (exprs_at ex (take i ms)) (exprs_at ex (take i ns)) ≡ true → same_trees (exprs_at ex ms) (exprs_at ex ns) ≡ true
same_end ex [] [] i e f h = refl
same_end ex [] (y ∷ ns) zero e f h = cc
same_end ex [] (y ∷ ns) (suc i) e f h = cc
same_end ex (x ∷ ms) ns zero e f h = cc
same_end ex (x ∷ ms) [] (suc i) e f h = cc
same_end ex (x ∷ ms) (y ∷ ns) (suc i) e f h =
    let parts = and_parts (same_tree (expr_at ex x) (expr_at ex y)) (same_trees (exprs_at ex (take i ms)) (exprs_at ex (take i ns))) h in
    both (same_tree (expr_at ex x) (expr_at ex y)) (same_trees (exprs_at ex ms) (exprs_at ex ns)) parts.0 (same_end ex ms ns i e f parts.1)

-- where the operands of one end, both are the same just where those of the other end too
pub same_last : (ex : List AExpr) (ms ns : List Node) (i : ℕ) → slice_get ms i ≡ None → same_trees (exprs_at ex (take i ms)) (exprs_at ex (take i ns)) ≡ true → (o : Option Node) → slice_get ns i ≡ o → is_none o ≡ same_trees (exprs_at ex ms) (exprs_at ex ns)
same_last ex ms ns i e h None f = sym (same_end ex ms ns i e f h)
same_last ex ms ns i e h (Some n) f = sym (differ_before ex ms ns i n e f)
