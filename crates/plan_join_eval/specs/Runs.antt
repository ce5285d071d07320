-- Runs of rows in which no key can meet an inequality.
use Rattle.std.specs.Prelude.{◌≡◌, ◌<◌, ◌≤◌, ◌+◌, ℕ, Bool, true, false, not, ◌&&◌, List, [], All, get_or, length, if◌then◌else◌}
use Rattle.plan_options.specs.declared.join.InequalityOperator.{InequalityOperator}
use Rattle.plan_options.specs.declared.join.InequalityOperator.TheVariants as inequality
use Rattle.plan_expr.specs.declared.operator.Operator.TheVariants as operator
use Rattle.plan_frame.specs.Meaning.{Cell, operated, value_at}
use Rattle.plan_frame.specs.Values.{Value, null, whole, text, is_null, is_true}
use Rattle.plan_join.specs.Matching.{operator_of}
use Rattle.plan_join.specs.Pairs.{passing}
use Rattle.plan_value.specs.Shown.{value_of}
use Rattle.plan_join_eval.specs.declared.runs.Run.{Run}

-- whether greater values of the side that is not gone through meet an inequality where a value does
abbrev pub is_up : InequalityOperator → (by_right : Bool) → Bool
is_up inequality.Lt by_right = not by_right
is_up inequality.LtEq by_right = not by_right
is_up inequality.Gt by_right = by_right
is_up inequality.GtEq by_right = by_right

-- whether a value of the side that is gone through, the right one or the left, and one of the other meet an inequality
abbrev pub is_met : InequalityOperator → (by_right : Bool) → (own other : Value) → Bool
is_met o true own other = is_true (operated (operator_of o) other own)
is_met o false own other = is_true (operated (operator_of o) own other)

-- whether a value is null or compares with another, which is a whole number or a text as it is
abbrev pub are_comparable : Value → Value → Bool
are_comparable null b = true
are_comparable (whole m) (whole n) = true
are_comparable (text s) (text t) = true
are_comparable _ _ = false

-- whether a value is null, or lies up to a bound, or down to it
abbrev pub is_within : (up : Bool) → (bound value : Value) → Bool
is_within up b v = if is_null v then true else are_comparable v b && is_true (operated (if up then operator.LtEq else operator.GtEq) v b)

-- the values in so many rows from one on lie within a bound
abbrev pub IsRun : (up : Bool) → Cell → (first count : ℕ) → Value → Type 0
IsRun up c first count b = (i : ℕ) → first ≤ i → i < first + count → is_within up b (value_at c i) ≡ true

-- so do those of a run, which ends below a height
pub record IsRunAt (up : Bool) (c : Cell) (first height : ℕ) (r : Run) : Type 0 where
  pub ends : first + r.count ≤ height
  pub within : IsRun up c first r.count (value_of r.bound)

-- each of so many rows has runs of rows from it on
pub record AreRuns (up : Bool) (c : Cell) (height n : ℕ) (runs : List (List Run)) : Type 0 where
  pub long : length runs ≡ n
  pub each : (i : ℕ) → i < n → All (IsRunAt up c i height) (get_or runs i [])

-- no value in so many rows from one on meets an inequality with a value
pub record IsPassed (o : InequalityOperator) (by_right : Bool) (own : Value) (c : Cell) (first height count : ℕ) : Type 0 where
  pub ends : first + count ≤ height
  pub none : (i : ℕ) → first ≤ i → i < first + count → is_met o by_right own (value_at c i) ≡ false

-- rows that match are found up to a next one, after the last
pub record IsNext (test : ℕ → Bool) (other others next : ℕ) (rows : List ℕ) : Type 0 where
  pub later : other < next
  pub within : next ≤ others
  pub found : rows ≡ passing test next
