-- A row makes an elementwise expression true exactly where it makes each of its minterms true.
use Rattle.std.proofs.Common.{◌≡◌, ◌∙◌, ◌++◌, ℕ, zero, suc, Bool, true, false, ◌&&◌, cond, List, [], ◌∷◌, map, length, refl, sym, ap₂}
use Rattle.std.specs.List.{list_all}
use Rattle.std.proofs.lemmas.Bool.{and_parts as parts_of}
use Rattle.std.proofs.lemmas.List.Folds.{list_all-append}
use Rattle.std.proofs.Math.Bool.{and-false, and-true}
use Rattle.plan_tree.specs.Rose.{rose, no_roses, more}
use Rattle.plan_expr.specs.declared.operator.Operator.{Operator}
use Rattle.plan_expr.specs.declared.operator.Operator.TheVariants.{Eq, NotEq, Lt, LtEq, Gt, GtEq, EqValidity, NotEqValidity, And, Or, Xor, Plus, Minus, Multiply}
use Rattle.plan_expr.specs.Exprs.{ExprOp, column as column_of, literal, alias, binary, ternary, aggregate, call, window, len, Expr}
use Rattle.plan_frame.specs.Values.{Value, null, whole, text, truth, listed, is_true}
use Rattle.plan_frame.specs.Frames.{Frame, row}
use Rattle.plan_frame.specs.Meaning.{Cell, one, many, both_true, spread, val, value_at, zip_by}
use Rattle.plan_meaning.specs.JoinChecks.{is_elementwise}
use Rattle.plan_meaning.specs.CellRows.{IsEven, IsWide}
use Rattle.plan_meaning.proofs.RowWise.{elementwise_rows}
use Rattle.plan_meaning.specs.Minterms.{is_and_operator, is_and, minterms, holds_at}

alone : (test : Expr → Bool) (e : Expr) → test e ≡ list_all test (e ∷ [])
alone test e = sym (and-true (test e))

-- three-valued And is true where both sides are
false_beside : (x : Value) → (is_true x ≡ false) → (y : Value) → is_true (both_true x y) ≡ false
false_beside (truth true) e y = cc
false_beside (truth false) e y = refl
false_beside null e (truth false) = refl
false_beside null e (truth true) = refl
false_beside null e null = refl
false_beside null e (whole b) = refl
false_beside null e (text b) = refl
false_beside null e (listed b) = refl
false_beside (whole a) e (truth false) = refl
false_beside (whole a) e (truth true) = refl
false_beside (whole a) e null = refl
false_beside (whole a) e (whole b) = refl
false_beside (whole a) e (text b) = refl
false_beside (whole a) e (listed b) = refl
false_beside (text a) e (truth false) = refl
false_beside (text a) e (truth true) = refl
false_beside (text a) e null = refl
false_beside (text a) e (whole b) = refl
false_beside (text a) e (text b) = refl
false_beside (text a) e (listed b) = refl
false_beside (listed a) e (truth false) = refl
false_beside (listed a) e (truth true) = refl
false_beside (listed a) e null = refl
false_beside (listed a) e (whole b) = refl
false_beside (listed a) e (text b) = refl
false_beside (listed a) e (listed b) = refl

true_beside : (y : Value) → is_true (both_true (truth true) y) ≡ is_true y
true_beside (truth false) = refl
true_beside (truth true) = refl
true_beside null = refl
true_beside (whole b) = refl
true_beside (text b) = refl
true_beside (listed b) = refl

pub true-both : (x y : Value) → is_true (both_true x y) ≡ (is_true x && is_true y)
true-both (truth true) y = true_beside y
true-both (truth false) y = refl
true-both null y = false_beside null refl y
true-both (whole a) y = false_beside (whole a) refl y
true-both (text a) y = false_beside (text a) refl y
true-both (listed a) y = false_beside (listed a) refl y

-- in each row of cells as wide as one another
row-left : (x : Value) (ys : List Value) (i : ℕ) → is_true (row (map (both_true x) ys) i) ≡ (is_true x && is_true (row ys i))
row-left x [] i = sym (and-false (is_true x))
row-left x (y ∷ ys) zero = true-both x y
row-left x (y ∷ ys) (suc i) = row-left x ys i

row-right : (y : Value) (xs : List Value) (i : ℕ) → is_true (row (map (λ x. both_true x y) xs) i) ≡ (is_true (row xs i) && is_true y)
row-right y [] i = refl
row-right y (x ∷ xs) zero = true-both x y
row-right y (x ∷ xs) (suc i) = row-right y xs i

row-both : (xs ys : List Value) (i : ℕ) → length xs ≡ length ys → is_true (row (zip_by both_true xs ys) i) ≡ (is_true (row xs i) && is_true (row ys i))
row-both [] ys i e = refl
row-both (x ∷ xs) [] i e = cc
row-both (x ∷ xs) (y ∷ ys) zero e = true-both x y
row-both (x ∷ xs) (y ∷ ys) (suc i) e = row-both xs ys i (let q : length xs ≡ length ys = cc in q)

spread-both : (h : ℕ) (c d : Cell) (i : ℕ) → IsWide h c → IsWide h d → is_true (value_at (spread both_true c d) i) ≡ (is_true (value_at c i) && is_true (value_at d i))
spread-both h (one x) (one y) i wc wd = true-both x y
spread-both h (one x) (many ys) i wc wd = row-left x ys i
spread-both h (many xs) (one y) i wc wd = row-right y xs i
spread-both h (many xs) (many ys) i wc wd = row-both xs ys i (wc ∙ sym wd)

module _ (f : Frame) (even : IsEven f) (i : ℕ) where
  of_and : (n : Unit {0}) (o : Operator) (l r : Expr) → is_and_operator o ≡ true → is_elementwise l ≡ true → is_elementwise r ≡ true → holds_at f i (rose n (binary o) (more l (more r no_roses))) ≡ (holds_at f i l && holds_at f i r)
  of_and n And l r e wl wr = spread-both f.height (val l f) (val r f) i (elementwise_rows f even [] tt l wl).wide (elementwise_rows f even [] tt r wr).wide
  of_and n Eq l r e wl wr = cc
  of_and n NotEq l r e wl wr = cc
  of_and n Lt l r e wl wr = cc
  of_and n LtEq l r e wl wr = cc
  of_and n Gt l r e wl wr = cc
  of_and n GtEq l r e wl wr = cc
  of_and n EqValidity l r e wl wr = cc
  of_and n NotEqValidity l r e wl wr = cc
  of_and n Or l r e wl wr = cc
  of_and n Xor l r e wl wr = cc
  of_and n Plus l r e wl wr = cc
  of_and n Minus l r e wl wr = cc
  of_and n Multiply l r e wl wr = cc

  of_op : (n : Unit {0}) (op : ExprOp) (l r : Expr) → is_and op ≡ true → is_elementwise l ≡ true → is_elementwise r ≡ true → holds_at f i (rose n op (more l (more r no_roses))) ≡ (holds_at f i l && holds_at f i r)
  of_op n (binary o) l r e wl wr = of_and n o l r e wl wr
  of_op n (column_of a) l r e wl wr = cc
  of_op n (literal v) l r e wl wr = cc
  of_op n (alias a) l r e wl wr = cc
  of_op n ternary l r e wl wr = cc
  of_op n (aggregate o) l r e wl wr = cc
  of_op n (call c o) l r e wl wr = cc
  of_op n window l r e wl wr = cc
  of_op n len l r e wl wr = cc

  pub true-minterms : (e : Expr) → is_elementwise e ≡ true → holds_at f i e ≡ list_all (holds_at f i) (minterms e)
  true-minterms (rose n op no_roses) w = alone (holds_at f i) (rose n op no_roses)
  true-minterms (rose n op (more l no_roses)) w = alone (holds_at f i) (rose n op (more l no_roses))
  true-minterms (rose n op (more l (more r (more e es)))) w = alone (holds_at f i) (rose n op (more l (more r (more e es))))
  true-minterms (rose n op (more l (more r no_roses))) w =
      let all = (parts_of _ (is_elementwise l && (is_elementwise r && true)) w).1 in
      let p = parts_of (is_elementwise l) (is_elementwise r && true) all in
      let wr = (parts_of (is_elementwise r) true p.1).0 in
      at (is_and op) refl (true-minterms l p.0) (true-minterms r wr) p.0 wr
    where
      at : (b : Bool) → is_and op ≡ b → holds_at f i l ≡ list_all (holds_at f i) (minterms l) → holds_at f i r ≡ list_all (holds_at f i) (minterms r) → is_elementwise l ≡ true → is_elementwise r ≡ true → holds_at f i (rose n op (more l (more r no_roses))) ≡ list_all (holds_at f i) (cond b (minterms l ++ minterms r) (rose n op (more l (more r no_roses)) ∷ []))
      at true e left right wl wr = of_op n op l r e wl wr ∙ ap₂ (λ (x y : Bool). x && y) left right ∙ sym (list_all-append (holds_at f i) (minterms l) (minterms r))
      at false e left right wl wr = alone (holds_at f i) (rose n op (more l (more r no_roses)))
