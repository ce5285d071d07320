-- What expressions mean: one value, or one value for each row of a frame.
use Rattle.std.specs.Prelude.{◌≡◌, length, ℕ, ℤ, pos, zero, suc, Bool, true, false, not, ◌&&◌, List, [], ◌∷◌, map, replicate, reverse, if◌then◌else◌}
use Rattle.std.specs.List.{range_with_len}
use Rattle.std.specs.Int.{w64, int_wrap, int_wrapping_add, int_wrapping_sub, int_wrapping_mul}
use Rattle.std.specs.declared.cmp.Ordering.{Ordering}
use Rattle.std.specs.Ordering.{is_eq, is_ne, is_lt, is_le, is_gt, is_ge}
use Rattle.plan_core.specs.declared.data_type.DataType.{DataType}
use Rattle.plan_tree.specs.Rose.{Roses, rose, no_roses, more}
use Rattle.plan_expr.specs.Exprs.{ExprOp, column as column_of, literal, alias, binary, ternary, aggregate, call, window, len, Expr}
use Rattle.plan_expr.specs.declared.function_expr.FunctionExpr.{FunctionExpr}
use Rattle.plan_expr.specs.declared.function_expr.FunctionExpr.TheVariants.{Not, IsNull, IsNotNull, FillNull, Reverse, CumSum}
use Rattle.plan_expr.specs.declared.literal.LiteralValue.{LiteralValue}
use Rattle.plan_expr.specs.declared.literal.LiteralValue.TheVariants.{Null, Int64, String, Boolean}
use Rattle.plan_expr.specs.declared.operator.Operator.{Operator}
use Rattle.plan_expr.specs.declared.operator.Operator.TheVariants.{Eq, NotEq, Lt, LtEq, Gt, GtEq, EqValidity, NotEqValidity, And, Or, Xor, Plus, Minus, Multiply}
use Rattle.plan_frame.specs.Values.{Value, IsOf, AllOf, null, whole, text, truth, is_null, is_true, value_cmp, same_value}
use Rattle.plan_frame.specs.Frames.{Frame, column_or, row, rows_at}
use Rattle.plan_frame.specs.Aggregates.{aggregated, filled_null, negated, running_sums}

-- one value, or one for each row
pub data Cell : Type 0 where
  one : Value → Cell
  many : List Value → Cell

-- a cell is of a type: its one value, or each of as many values as there are rows
abbrev pub CellHas : DataType → ℕ → Cell → Type 0
CellHas t h (one v) = IsOf t v
CellHas t h (many vs) = (length vs ≡ h) × AllOf t vs

-- what an expression is over each frame
abbrev pub Meaning : Type 0
Meaning = Frame → Cell

-- whether two values stand as a test says: null where a side is null
abbrev pub compared : (Ordering → Bool) → Value → Value → Value
compared test null y = null
compared test x null = null
compared test x y = truth (test (value_cmp x y))

-- three-valued and: false where a side is false, true where both are true, else null
abbrev pub both_true : Value → Value → Value
both_true (truth false) y = truth false
both_true x (truth false) = truth false
both_true (truth true) (truth true) = truth true
both_true _ _ = null

-- three-valued or: true where a side is true, false where both are false, else null
abbrev pub one_true : Value → Value → Value
one_true (truth true) y = truth true
one_true x (truth true) = truth true
one_true (truth false) (truth false) = truth false
one_true _ _ = null

-- whether just one side is true: null where a side is null
abbrev pub differ : Value → Value → Value
differ (truth true) (truth b) = truth (not b)
differ (truth false) (truth b) = truth b
differ _ _ = null

-- two whole numbers reckoned together: null where a side is null
abbrev pub reckoned : (ℤ → ℤ → ℤ) → Value → Value → Value
reckoned f (whole a) (whole b) = whole (f a b)
reckoned f _ _ = null

-- what an operator gives for two values; whole numbers wrap at 64 bits
abbrev pub operated : Operator → Value → Value → Value
operated Eq x y = compared is_eq x y
operated NotEq x y = compared is_ne x y
operated Lt x y = compared is_lt x y
operated LtEq x y = compared is_le x y
operated Gt x y = compared is_gt x y
operated GtEq x y = compared is_ge x y
operated EqValidity x y = truth (same_value x y)
operated NotEqValidity x y = truth (not (same_value x y))
operated And x y = both_true x y
operated Or x y = one_true x y
operated Xor x y = differ x y
operated Plus x y = reckoned (int_wrapping_add w64) x y
operated Minus x y = reckoned (int_wrapping_sub w64) x y
operated Multiply x y = reckoned (int_wrapping_mul w64) x y

-- two columns, row by row
abbrev pub zip_by : (Value → Value → Value) → List Value → List Value → List Value
zip_by f (x ∷ xs) (y ∷ ys) = f x y ∷ zip_by f xs ys
zip_by f _ _ = []

-- two cells, row by row; one value is spread beside many
abbrev pub spread : (Value → Value → Value) → Cell → Cell → Cell
spread f (one x) (one y) = one (f x y)
spread f (one x) (many ys) = many (map (f x) ys)
spread f (many xs) (one y) = many (map (λ x. f x y) xs)
spread f (many xs) (many ys) = many (zip_by f xs ys)

-- the value in a row
abbrev pub value_at : Cell → ℕ → Value
value_at (one v) i = v
value_at (many vs) i = row vs i

-- the value of a literal
abbrev pub literal_value : LiteralValue → Value
literal_value (Null type) = null
literal_value (Int64 number) = whole number
literal_value (String s) = text s
literal_value (Boolean b) = truth b

-- what is made of the only operand; null where there is not one
abbrev pub one_of : List Meaning → (Meaning → Cell) → Cell
one_of (m ∷ []) f = f m
one_of _ f = one null

-- what is made of two operands; null where there are not two
abbrev pub two_of : List Meaning → (Meaning → Meaning → Cell) → Cell
two_of (m ∷ n ∷ []) f = f m n
two_of _ f = one null

-- what is made of three operands; null where there are not three
abbrev pub three_of : List Meaning → (Meaning → Meaning → Meaning → Cell) → Cell
three_of (m ∷ n ∷ k ∷ []) f = f m n k
three_of _ f = one null

-- whether cells each are one value
abbrev pub all_one : List Cell → Bool
all_one [] = true
all_one (one v ∷ cs) = all_one cs
all_one (many vs ∷ cs) = false

-- what is made of the values of cells in each row, below a height: one value where the cells each are one
abbrev pub row_by_row : ℕ → List Cell → (ℕ → Value) → Cell
row_by_row h cs at = if all_one cs then one (at 0) else many (map at (range_with_len 0 h))

-- in each row the first value where a third one is true, else the second
abbrev pub chosen : ℕ → Cell → Cell → Cell → Cell
chosen h truthy falsy predicate = row_by_row h (truthy ∷ falsy ∷ predicate ∷ []) (λ i. if is_true (value_at predicate i) then value_at truthy i else value_at falsy i)

-- the values of a cell; its one value alone
abbrev pub cell_values : Cell → List Value
cell_values (one v) = v ∷ []
cell_values (many vs) = vs

-- a cell with another value for each
abbrev pub each_value : (Value → Value) → Cell → Cell
each_value f (one v) = one (f v)
each_value f (many vs) = many (map f vs)

-- a cell with other values for all; its one value is taken as a column of one row
abbrev pub all_values : (List Value → List Value) → Cell → Cell
all_values f (one v) = one (row (f (v ∷ [])) 0)
all_values f (many vs) = many (f vs)

-- what a function makes of one input: the truth value that each isn't, whether each is null or isn't, all from the last row to
-- the first, or the sums up to each; null where it takes two
abbrev pub called_on : FunctionExpr → Cell → Cell
called_on Not c = each_value negated c
called_on IsNull c = each_value (λ v. truth (is_null v)) c
called_on IsNotNull c = each_value (λ v. truth (not (is_null v))) c
called_on FillNull c = one null
called_on Reverse c = all_values reverse c
called_on CumSum c = all_values (running_sums (pos 0)) c

-- what a function makes of two inputs: the first, and the second where that is null; null where it takes one
abbrev pub called_on_two : FunctionExpr → Cell → Cell → Cell
called_on_two FillNull c d = spread filled_null c d
called_on_two _ c d = one null

-- what a function makes of its inputs; null where it doesn't take so many
abbrev pub called : FunctionExpr → List Cell → Cell
called function [] = one null
called function (c ∷ []) = called_on function c
called function (c ∷ d ∷ []) = called_on_two function c d
called function (c ∷ d ∷ e ∷ cs) = one null

-- whether two rows are the same in each of some cells, null being the same as null
abbrev pub are_alike : List Cell → ℕ → ℕ → Bool
are_alike [] i j = true
are_alike (c ∷ cs) i j = same_value (value_at c i) (value_at c j) && are_alike cs i j

-- the numbers that pass a test, among so many from a first one on
abbrev pub places_from : (ℕ → Bool) → ℕ → ℕ → List ℕ
places_from test i zero = []
places_from test i (suc n) = if test i then i ∷ places_from test (suc i) n else places_from test (suc i) n

-- the rows below a height that are the same as a row in each of some cells, in order
abbrev pub rows_alike : List Cell → ℕ → ℕ → List ℕ
rows_alike keys h i = places_from (are_alike keys i) 0 h

-- the one value of a cell; null where it has one for each row
abbrev pub only_value : Cell → Value
only_value (one v) = v
only_value (many vs) = null

-- for each row what is meant over the rows that are the same in each of some cells
abbrev pub windowed : Meaning → List Cell → Frame → Cell
windowed m keys f = many (map (λ i. only_value (m (rows_at (rows_alike keys f.height i) f))) (range_with_len 0 f.height))

-- what meanings are over a frame
abbrev pub cells : List Meaning → Frame → List Cell
cells ms f = map (λ (m : Meaning). m f) ms

-- a window of the first of some meanings, by what the others are; null where there is none
abbrev pub window_of : List Meaning → Frame → Cell
window_of [] f = one null
window_of (m ∷ keys) f = windowed m (cells keys f) f

-- what an operator makes of the meanings of its operands
abbrev pub meaning : ExprOp → List Meaning → Meaning
meaning (column_of name) ms f = many (column_or f name)
meaning (literal value) ms f = one (literal_value value)
meaning (alias name) ms f = one_of ms (λ m. m f)
meaning (binary op) ms f = two_of ms (λ m n. spread (operated op) (m f) (n f))
meaning ternary ms f = three_of ms (λ truthy falsy predicate. chosen f.height (truthy f) (falsy f) (predicate f))
meaning (aggregate op) ms f = one_of ms (λ m. one (aggregated op (cell_values (m f))))
meaning (call function options) ms f = called function (cells ms f)
meaning window ms f = window_of ms f
meaning len ms f = one (whole (int_wrap w64 (pos f.height)))

-- what an expression means: its operator over the meanings of its operands
abbrev mutual
  pub val : Expr → Meaning
  val (rose n op es) = meaning op (vals es)

  pub vals : Roses (Unit {0}) ExprOp → List Meaning
  vals no_roses = []
  vals (more e es) = val e ∷ vals es

-- the values of a cell in a column of so many rows: its one value in each
abbrev pub filled : ℕ → Cell → List Value
filled h (one v) = replicate h v
filled h (many vs) = vs
