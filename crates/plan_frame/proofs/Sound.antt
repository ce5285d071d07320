-- The values of an expression that has a type are of this type, and as many as the frame has rows.
use Rattle.std.proofs.Common.{◌≡◌, ℕ, ℤ, Bool, true, false, cond, List, [], ◌∷◌, length, Option, Some, None, refl, subst}
use Rattle.std.specs.Prelude.{pos, option_and_then}
use Rattle.std.specs.Ordering.{is_eq, is_ne, is_lt, is_le, is_gt, is_ge}
use Rattle.std.specs.Int.{w64, int_wrap, int_wrapping_add, int_wrapping_sub, int_wrapping_mul}
use Rattle.plan_core.specs.Columns.{Columns, plain}
use Rattle.plan_core.specs.declared.data_type.DataType.{DataType}
use Rattle.plan_core.specs.declared.data_type.DataType.TheVariants as types
use Rattle.std.specs.declared.cmp.Ordering.{Ordering}
use Rattle.plan_tree.specs.Rose.{Roses, rose, no_roses, more}
use Rattle.plan_expr.specs.Exprs.{ExprOp, column as column_of, literal, alias, binary, ternary, aggregate, call, window, len, Expr}
use Rattle.plan_expr.specs.declared.operator.Operator.{Operator}
use Rattle.plan_expr.specs.declared.operator.Operator.TheVariants.{Eq, NotEq, Lt, LtEq, Gt, GtEq, EqValidity, NotEqValidity, And, Or, Xor, Plus, Minus, Multiply}
use Rattle.plan_expr.specs.declared.literal.LiteralValue.{LiteralValue}
use Rattle.plan_expr.specs.declared.literal.LiteralValue.TheVariants.{Null, Int64, String, Boolean}
use Rattle.plan_expr.specs.Scalars.{scalar_by, is_scalar, are_scalar}
use Rattle.plan_frame.specs.Exprs.{op_type, type_by, expr_type, expr_types}
use Rattle.plan_expr.specs.Types.{all_of, function_type, gives, literal_type, operator_type, takes}
use Rattle.plan_expr.specs.declared.function_expr.FunctionExpr.{FunctionExpr}
use Rattle.plan_expr.specs.declared.function_expr.FunctionExpr.TheVariants.{Not, IsNull, IsNotNull, FillNull, Reverse, CumSum}
use Rattle.plan_frame.specs.Values.{Value, null, whole, text, truth, listed, IsOf, AllOf}
use Rattle.plan_frame.specs.Aggregates.{aggregated}
use Rattle.plan_frame.specs.Frames.{Frame, HasSchema, rows_at}
use Rattle.plan_frame.specs.Meaning.{Cell, one, many, CellHas, Meaning, called, called_on, called_on_two, cells, cell_values, chosen, rows_alike, windowed, spread, compared, both_true, one_true, differ, reckoned, operated, literal_value, meaning, val, vals, filled}
use Rattle.std.proofs.lemmas.Bool.{and_parts}
use Rattle.std.proofs.lemmas.List.{length-replicate}
use Rattle.plan_frame.proofs.FrameLemmas.{null_of, schema_holds, holds_or, replicate_of, rows_schema}
use Rattle.plan_frame.proofs.Spreads.{spread_has}
use Rattle.plan_frame.proofs.TypedValues.{aggregated_of, called_has, cell_values_of, chosen_has, only_of_cell, rows_has, some_same, unary_has}

-- over each frame with this schema a meaning is of the type, if there is one
pub record Sound (s : Columns) (m : Meaning) (o : Option DataType) : Type 0 where
  pub by : (f : Frame) (t : DataType) → HasSchema f s → o ≡ Some t → CellHas t f.height (m f)

abbrev AllSound : Columns → List Meaning → List (Option DataType) → Type 0
AllSound s [] [] = Unit {0}
AllSound s (m ∷ ms) (o ∷ os) = Sound s m o × AllSound s ms os
AllSound s _ _ = ⊥

-- a comparison gives a truth value or null, whatever its sides are
compared_of : (test : Ordering → Bool) (x y : Value) → IsOf types.Boolean (compared test x y)
compared_of test null y = tt
compared_of test (whole a) null = tt
compared_of test (text a) null = tt
compared_of test (truth a) null = tt
compared_of test (listed a) null = tt
compared_of test x y = tt

-- so does logic
both_of : (x y : Value) → IsOf types.Boolean (both_true x y)
both_of (truth false) y = tt
both_of (truth true) (truth true) = tt
both_of (truth true) (truth false) = tt
both_of (truth true) null = tt
both_of (truth true) (whole b) = tt
both_of (truth true) (text b) = tt
both_of (truth true) (listed b) = tt
both_of null (truth false) = tt
both_of null (truth true) = tt
both_of null null = tt
both_of null (whole b) = tt
both_of null (text b) = tt
both_of null (listed b) = tt
both_of (whole a) (truth false) = tt
both_of (whole a) (truth true) = tt
both_of (whole a) null = tt
both_of (whole a) (whole b) = tt
both_of (whole a) (text b) = tt
both_of (whole a) (listed b) = tt
both_of (text a) (truth false) = tt
both_of (text a) (truth true) = tt
both_of (text a) null = tt
both_of (text a) (whole b) = tt
both_of (text a) (text b) = tt
both_of (text a) (listed b) = tt
both_of (listed a) (truth false) = tt
both_of (listed a) (truth true) = tt
both_of (listed a) null = tt
both_of (listed a) (whole b) = tt
both_of (listed a) (text b) = tt
both_of (listed a) (listed b) = tt

one_of_two : (x y : Value) → IsOf types.Boolean (one_true x y)
one_of_two (truth true) y = tt
one_of_two (truth false) (truth false) = tt
one_of_two (truth false) (truth true) = tt
one_of_two (truth false) null = tt
one_of_two (truth false) (whole b) = tt
one_of_two (truth false) (text b) = tt
one_of_two (truth false) (listed b) = tt
one_of_two null (truth true) = tt
one_of_two null (truth false) = tt
one_of_two null null = tt
one_of_two null (whole b) = tt
one_of_two null (text b) = tt
one_of_two null (listed b) = tt
one_of_two (whole a) (truth true) = tt
one_of_two (whole a) (truth false) = tt
one_of_two (whole a) null = tt
one_of_two (whole a) (whole b) = tt
one_of_two (whole a) (text b) = tt
one_of_two (whole a) (listed b) = tt
one_of_two (text a) (truth true) = tt
one_of_two (text a) (truth false) = tt
one_of_two (text a) null = tt
one_of_two (text a) (whole b) = tt
one_of_two (text a) (text b) = tt
one_of_two (text a) (listed b) = tt
one_of_two (listed a) (truth true) = tt
one_of_two (listed a) (truth false) = tt
one_of_two (listed a) null = tt
one_of_two (listed a) (whole b) = tt
one_of_two (listed a) (text b) = tt
one_of_two (listed a) (listed b) = tt

differ_of : (x y : Value) → IsOf types.Boolean (differ x y)
differ_of (truth true) (truth b) = tt
differ_of (truth false) (truth b) = tt
differ_of (truth true) null = tt
differ_of (truth true) (whole b) = tt
differ_of (truth true) (text b) = tt
differ_of (truth true) (listed b) = tt
differ_of (truth false) null = tt
differ_of (truth false) (whole b) = tt
differ_of (truth false) (text b) = tt
differ_of (truth false) (listed b) = tt
differ_of null y = tt
differ_of (whole a) y = tt
differ_of (text a) y = tt
differ_of (listed a) y = tt

-- arithmetic gives a whole number or null
reckoned_of : (f : ℤ → ℤ → ℤ) (x y : Value) → IsOf types.Int64 (reckoned f x y)
reckoned_of f (whole a) (whole b) = tt
reckoned_of f (whole a) null = tt
reckoned_of f (whole a) (text b) = tt
reckoned_of f (whole a) (truth b) = tt
reckoned_of f (whole a) (listed b) = tt
reckoned_of f null y = tt
reckoned_of f (text a) y = tt
reckoned_of f (truth a) y = tt
reckoned_of f (listed a) y = tt

-- an operator gives values of its type, whatever its sides are
operated_of : (o : Operator) (x y : Value) → IsOf (gives o) (operated o x y)
operated_of Eq x y = compared_of is_eq x y
operated_of NotEq x y = compared_of is_ne x y
operated_of Lt x y = compared_of is_lt x y
operated_of LtEq x y = compared_of is_le x y
operated_of Gt x y = compared_of is_gt x y
operated_of GtEq x y = compared_of is_ge x y
operated_of EqValidity x y = tt
operated_of NotEqValidity x y = tt
operated_of And x y = both_of x y
operated_of Or x y = one_of_two x y
operated_of Xor x y = differ_of x y
operated_of Plus x y = reckoned_of (int_wrapping_add w64) x y
operated_of Minus x y = reckoned_of (int_wrapping_sub w64) x y
operated_of Multiply x y = reckoned_of (int_wrapping_mul w64) x y

literal_of : (v : LiteralValue) → IsOf (literal_type v) (literal_value v)
literal_of (Null t) = null_of (plain t)
literal_of (Int64 n) = tt
literal_of (String s) = tt
literal_of (Boolean b) = tt

-- over each frame with this schema a meaning is of the type
record Has (s : Columns) (m : Meaning) (t : DataType) : Type 0 where
  by : (f : Frame) → HasSchema f s → CellHas t f.height (m f)

abbrev AllHave : Columns → List Meaning → List DataType → Type 0
AllHave s [] [] = Unit {0}
AllHave s (m ∷ ms) (t ∷ ts) = Has s m t × AllHave s ms ts
AllHave s _ _ = ⊥

-- where all operands have types, their meanings are of them
all_have : (s : Columns) (ms : List Meaning) (os : List (Option DataType)) (ts : List DataType) → AllSound s ms os → all_of os ≡ Some ts → AllHave s ms ts
all_have s [] [] [] h e = tt
all_have s [] [] (t ∷ ts) h e = cc
all_have s (m ∷ ms) (None ∷ os) ts h e = cc
all_have s (m ∷ ms) (Some t ∷ os) ts h e = at (all_of os) (λ rest q. all_have s ms os rest h.1 q) ts e
  where
    at : (o : Option (List DataType)) → ((rest : List DataType) → o ≡ Some rest → AllHave s ms rest) → (us : List DataType) → option_and_then (λ (rest : List DataType). Some (t ∷ rest)) o ≡ Some us → AllHave s (m ∷ ms) us
    at None below us e = cc
    at (Some rest) below us e = subst (AllHave s (m ∷ ms)) (some_same (t ∷ rest) us e) (record { by = λ f has. h.0.by f t has refl }, below rest refl)
all_have s [] (o ∷ os) ts h e = absurd h
all_have s (m ∷ ms) [] ts h e = absurd h

binary_has : (o : Operator) (i j t : DataType) (h : ℕ) (c d : Cell) → operator_type o i j ≡ Some t → CellHas i h c → CellHas j h d → CellHas t h (spread (operated o) c d)
binary_has o i j t h c d e a b = at (takes o i j) e
  where
    at : (taken : Bool) → cond taken (Some (gives o)) None ≡ Some t → CellHas t h (spread (operated o) c d)
    at true e = subst (λ (x : DataType). CellHas x h (spread (operated o) c d)) (some_same (gives o) t e) (spread_has i j (gives o) (operated o) (λ x y p q. operated_of o x y) h c d a b)
    at false e = cc

called_sound : (s : Columns) (function : FunctionExpr) (ts : List DataType) (ms : List Meaning) (t : DataType) → AllHave s ms ts → function_type function ts ≡ Some t → (f : Frame) → HasSchema f s → CellHas t f.height (called function (cells ms f))
called_sound s function [] [] t h e f has = cc
called_sound s function (i ∷ []) (m ∷ []) t h e f has = unary_has function i t f.height (m f) e (h.0.by f has)
called_sound s function (i ∷ j ∷ []) (m ∷ n ∷ []) t h e f has = called_has function i j t f.height (m f) (n f) e (h.0.by f has) (h.1.0.by f has)
called_sound s function (i ∷ j ∷ k ∷ ts) ms t h e f has = cc
called_sound s function ts ms t h e f has = absurd (first_of (search h, cc))

op_sound : (s : Columns) (op : ExprOp) (ts : List DataType) (ms : List Meaning) (t : DataType) → AllHave s ms ts → op_type op s ts ≡ Some t → (f : Frame) → HasSchema f s → CellHas t f.height (meaning op ms f)
op_sound s (column_of a) ts ms t h e f has = let w = holds_or f (a, t) (schema_holds f s a t has e) in (w.0, w.1)
op_sound s (literal v) ts ms t h e f has = subst (λ (x : DataType). IsOf x (literal_value v)) (some_same (literal_type v) t e) (literal_of v)
op_sound s (alias a) (u ∷ []) (m ∷ []) t h e f has = subst (λ (x : DataType). CellHas x f.height (m f)) (some_same u t e) (h.0.by f has)
op_sound s (binary o) (i ∷ j ∷ []) (m ∷ n ∷ []) t h e f has = binary_has o i j t f.height (m f) (n f) e (h.0.by f has) (h.1.0.by f has)
op_sound s ternary (i ∷ j ∷ p ∷ []) (m ∷ n ∷ k ∷ []) t h e f has = chosen_has p i j t f.height (m f) (n f) (k f) e (h.0.by f has) (h.1.0.by f has)
op_sound s (aggregate o) (u ∷ []) (m ∷ []) t h e f has = aggregated_of o u t (cell_values (m f)) e (cell_values_of u f.height (m f) (h.0.by f has))
op_sound s (call c o) ts ms t h e f has = called_sound s c ts ms t h e f has
op_sound s window (u ∷ us) (m ∷ keys) t h e f has =
    subst (λ (x : DataType). CellHas x f.height (windowed m (cells keys f) f)) (some_same u t e)
    (rows_has u f.height _ (λ i. let rows = rows_alike (cells keys f) f.height i in only_of_cell u (length rows) (m (rows_at rows f)) (h.0.by (rows_at rows f) (rows_schema rows f s has))))
op_sound s len ts ms t h e f has = subst (λ (x : DataType). CellHas x f.height (one (whole (int_wrap w64 (pos f.height))))) (some_same types.Int64 t e) tt
op_sound s op ts ms t h e f has = absurd (first_of (search h, cc))

meaning_sound : (s : Columns) (op : ExprOp) (os : List (Option DataType)) (ms : List Meaning) → AllSound s ms os → Sound s (meaning op ms) (type_by op os s)
meaning_sound s op os ms h = record { by = λ f t has e. at f t has (all_of os) refl e }
  where
    at : (f : Frame) (t : DataType) → HasSchema f s → (o : Option (List DataType)) → all_of os ≡ o → option_and_then (op_type op s) o ≡ Some t → CellHas t f.height (meaning op ms f)
    at f t has None q e = cc
    at f t has (Some ts) q e = op_sound s op ts ms t (all_have s ms os ts h q) e f has

mutual
  -- the values of an expression that has a type are of it
  pub val_sound : (s : Columns) (e : Expr) → Sound s (val e) (expr_type e s)
  val_sound s (rose n op es) = meaning_sound s op (expr_types es s) (vals es) (vals_sound s es)

  vals_sound : (s : Columns) (es : Roses (Unit {0}) ExprOp) → AllSound s (vals es) (expr_types es s)
  vals_sound s no_roses = tt
  vals_sound s (more e es) = (val_sound s e, vals_sound s es)

-- scalar expressions

-- over each frame a meaning is one value
pub record Single (m : Meaning) : Type 0 where
  pub at : (f : Frame) → (v : Value) × (m f ≡ one v)

abbrev AllSingle : List Meaning → Type 0
AllSingle [] = Unit {0}
AllSingle (m ∷ ms) = Single m × AllSingle ms

spread_single : (g : Value → Value → Value) (m n : Meaning) → Single m → Single n → Single (λ f. spread g (m f) (n f))
spread_single g m n a b = record { at = λ f. (g (a.at f).0 (b.at f).0, rw ((a.at f).1, (b.at f).1) refl) }

-- a cell is one value
abbrev IsOne : Cell → Type 0
IsOne c = (v : Value) × (c ≡ one v)

chosen_one : (h : ℕ) (a b c : Cell) → IsOne a → IsOne b → IsOne c → IsOne (chosen h a b c)
chosen_one h (one x) (one y) (one z) p q r = (_, refl)
chosen_one h (many xs) b c p q r = absurd (no p)
  where
    no : IsOne (many xs) → ⊥
    no s = cc
chosen_one h (one x) (many ys) c p q r = cc
chosen_one h (one x) (one y) (many zs) p q r = cc

called_one : (function : FunctionExpr) (c : Cell) → IsOne c → IsOne (called_on function c)
called_one Not (one v) p = (_, refl)
called_one IsNull (one v) p = (_, refl)
called_one IsNotNull (one v) p = (_, refl)
called_one FillNull c p = (null, refl)
called_one Reverse (one v) p = (_, refl)
called_one CumSum (one v) p = (_, refl)
called_one function (many vs) p = cc

two_called_one : (function : FunctionExpr) (c d : Cell) → IsOne c → IsOne d → IsOne (called_on_two function c d)
two_called_one FillNull (one x) (one y) p q = (_, refl)
two_called_one FillNull (many xs) d p q = cc
two_called_one FillNull (one x) (many ys) p q = cc
two_called_one Not c d p q = (null, refl)
two_called_one IsNull c d p q = (null, refl)
two_called_one IsNotNull c d p q = (null, refl)
two_called_one Reverse c d p q = (null, refl)
two_called_one CumSum c d p q = (null, refl)

meaning_single : (op : ExprOp) (ms : List Meaning) (all : Bool) → scalar_by op all ≡ true → (all ≡ true → AllSingle ms) → Single (meaning op ms)
meaning_single (column_of a) ms all own h = cc
meaning_single (literal v) ms all own h = record { at = λ f. (literal_value v, refl) }
meaning_single (alias a) [] all own h = record { at = λ f. (null, refl) }
meaning_single (alias a) (m ∷ []) all own h = record { at = λ f. (h own).0.at f }
meaning_single (alias a) (m ∷ n ∷ ms) all own h = record { at = λ f. (null, refl) }
meaning_single (binary o) [] all own h = record { at = λ f. (null, refl) }
meaning_single (binary o) (m ∷ []) all own h = record { at = λ f. (null, refl) }
meaning_single (binary o) (m ∷ n ∷ []) all own h = record { at = λ f. (spread_single (operated o) m n (h own).0 (h own).1.0).at f }
meaning_single (binary o) (m ∷ n ∷ k ∷ ms) all own h = record { at = λ f. (null, refl) }
meaning_single ternary (m ∷ n ∷ k ∷ []) all own h = record { at = λ f. chosen_one f.height _ _ _ ((h own).0.at f) ((h own).1.0.at f) ((h own).1.1.0.at f) }
meaning_single ternary [] all own h = record { at = λ f. (null, refl) }
meaning_single ternary (m ∷ []) all own h = record { at = λ f. (null, refl) }
meaning_single ternary (m ∷ n ∷ []) all own h = record { at = λ f. (null, refl) }
meaning_single ternary (m ∷ n ∷ k ∷ j ∷ ms) all own h = record { at = λ f. (null, refl) }
meaning_single (aggregate o) [] all own h = record { at = λ f. (null, refl) }
meaning_single (aggregate o) (m ∷ []) all own h = record { at = λ f. (aggregated o (cell_values (m f)), refl) }
meaning_single (aggregate o) (m ∷ n ∷ ms) all own h = record { at = λ f. (null, refl) }
meaning_single (call c o) [] all own h = record { at = λ f. (null, refl) }
meaning_single (call c o) (m ∷ []) all own h = record { at = λ f. called_one c (m f) ((h own).0.at f) }
meaning_single (call c o) (m ∷ n ∷ []) all own h = record { at = λ f. two_called_one c (m f) (n f) ((h own).0.at f) ((h own).1.0.at f) }
meaning_single (call c o) (m ∷ n ∷ k ∷ ms) all own h = record { at = λ f. (null, refl) }
meaning_single window ms all own h = cc
meaning_single len ms all own h = record { at = λ f. (whole (int_wrap w64 (pos f.height)), refl) }

mutual
  -- a scalar expression has one value
  pub val_single : (e : Expr) → is_scalar e ≡ true → Single (val e)
  val_single (rose n op es) h = meaning_single op (vals es) (are_scalar es) h (λ all. vals_single es all)

  vals_single : (es : Roses (Unit {0}) ExprOp) → are_scalar es ≡ true → AllSingle (vals es)
  vals_single no_roses h = tt
  vals_single (more e es) h =
      let p = and_parts (is_scalar e) (are_scalar es) h in
      (val_single e p.0, vals_single es p.1)

-- a cell fills a column of so many rows with values of a type
abbrev pub Fills : DataType → ℕ → Cell → Type 0
Fills t h c = (length (filled h c) ≡ h) × AllOf t (filled h c)

pub cell_fills : (t : DataType) (h : ℕ) (c : Cell) → CellHas t h c → Fills t h c
cell_fills t h (one v) k = (length-replicate h v, replicate_of t v h k)
cell_fills t h (many vs) k = k

-- one value fills columns of any height
pub one_fills : (t : DataType) (h i : ℕ) (c : Cell) → (v : Value) × (c ≡ one v) → CellHas t i c → Fills t h c
one_fills t h i (one v) s k = (length-replicate h v, replicate_of t v h k)
one_fills t h i (many vs) s k = cc
