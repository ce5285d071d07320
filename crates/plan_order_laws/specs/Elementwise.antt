-- Expressions that give each value by one row alone, and aggregates that make the same of rows in any order.
use Rattle.std.specs.Prelude.{◌≡◌, ◌<◌, ℕ, Bool, true, false, ◌&&◌, List, [], ◌∷◌}
use Rattle.plan_tree.specs.Rose.{Roses, rose}
use Rattle.plan_expr.specs.Exprs.{ExprOp, column, literal, alias, binary, ternary, aggregate, call, window, len as row_count, Expr, Named}
use Rattle.plan_frame.specs.Frames.{Column, Frame, row, rows_at}
use Rattle.plan_frame.specs.Meaning.{Meaning}
use Rattle.plan_order_laws.specs.Orderless.{ignores_order}
use Rattle.plan_order_laws.specs.Rows.{IsLevelCell, rows_cell}
use Rattle.plan_meaning.specs.JoinChecks.{is_elementwise, are_elementwise}

-- all expressions are elementwise
abbrev pub all_elementwise : List Named → Bool
all_elementwise [] = true
all_elementwise (e ∷ es) = is_elementwise e.expr && all_elementwise es

-- whether an operator is an aggregate that makes the same of values in any order, of operands that are elementwise
abbrev pub sums_up : ExprOp → Roses (Unit {0}) ExprOp → Bool
sums_up (aggregate op) es = ignores_order op && are_elementwise es
sums_up (column name) es = false
sums_up (literal value) es = false
sums_up (alias name) es = false
sums_up (binary op) es = false
sums_up ternary es = false
sums_up (call function options) es = false
sums_up window es = false
sums_up row_count es = false

-- whether an expression is an aggregate that makes the same of rows in any order
abbrev pub is_summary : Expr → Bool
is_summary (rose n op es) = sums_up op es

-- all expressions are
abbrev pub all_summaries : List Named → Bool
all_summaries [] = true
all_summaries (e ∷ es) = is_summary e.expr && all_summaries es

-- what is meant has one value over a frame, or as many as this has rows, and over some of its rows what it has in these
pub record RowWise (f : Frame) (ps : List ℕ) (m : Meaning) : Type 0 where
  pub level : IsLevelCell f.height (m f)
  pub rows : m (rows_at ps f) ≡ rows_cell ps (m f)

-- all that is meant is so
abbrev pub AllRowWise : Frame → List ℕ → List Meaning → Type 0
AllRowWise f ps [] = Unit {0}
AllRowWise f ps (m ∷ ms) = RowWise f ps m × AllRowWise f ps ms

-- a column has the same value in rows that are the same
abbrev pub IsEven : (same : ℕ → ℕ → Bool) → (h : ℕ) → Column → Type 0
IsEven same h c = (i j : ℕ) → i < h → j < h → same i j ≡ true → row c.values i ≡ row c.values j
