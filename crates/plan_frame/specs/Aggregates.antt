-- What aggregates make of values, and functions of columns.
use Rattle.std.specs.Prelude.{ℤ, pos, ◌+ℤ◌, ◌-◌, true, false, not, List, [], ◌∷◌, ◌++◌, length, map, fold, if◌then◌else◌}
use Rattle.std.specs.List.{filter as only_where, list_any}
use Rattle.std.specs.Int.{w64, int_wrap}
use Rattle.std.specs.Ordering.{is_lt, is_gt}
use Rattle.plan_expr.specs.declared.agg.Aggregate.{Aggregate}
use Rattle.plan_expr.specs.declared.agg.Aggregate.TheVariants.{Min, Max, Sum, Count, NUnique, First, Last, Implode}
use Rattle.plan_frame.specs.Values.{Single, no_single, single_whole, single_text, single_truth, Value, null, whole, text, truth, listed, is_null, value_cmp, same_value}
use Rattle.plan_frame.specs.Frames.{row}

-- the values that aren't null, in order
abbrev pub present : List Value → List Value
present vs = only_where (λ (v : Value). not (is_null v)) vs

-- the lesser of two values of one type; the first where they are the same
abbrev pub lesser : Value → Value → Value
lesser x y = if is_lt (value_cmp y x) then y else x

-- the greater of two values of one type; the first where they are the same
abbrev pub greater : Value → Value → Value
greater x y = if is_gt (value_cmp y x) then y else x

-- one of several values, by which of two is taken; null where there is none
abbrev pub taken : (Value → Value → Value) → List Value → Value
taken better [] = null
taken better (v ∷ vs) = fold better v vs

-- the number that a value is; 0 where it is none
abbrev pub number : Value → ℤ
number (whole n) = n
number _ = pos 0

-- the sum of the numbers among values
abbrev pub total : List Value → ℤ
total [] = pos 0
total (v ∷ vs) = number v +ℤ total vs

-- how many values there are; whole numbers wrap at 64 bits
abbrev pub counted : List Value → Value
counted vs = whole (int_wrap w64 (pos (length vs)))

-- values, and one more unless it is there
abbrev pub with_value : List Value → Value → List Value
with_value seen v = if list_any (same_value v) seen then seen else seen ++ v ∷ []

-- each value once
abbrev pub distinct : List Value → List Value
distinct vs = fold with_value [] vs

-- a value as it stands in a list; null where it is a list itself
abbrev pub single : Value → Single
single null = no_single
single (whole n) = single_whole n
single (text s) = single_text s
single (truth b) = single_truth b
single (listed vs) = no_single

-- what an aggregate makes of all values: the least or the greatest that isn't null, the sum, how many there are, how many
-- are distinct, the first, the last, or their list; sums wrap at 64 bits
abbrev pub aggregated : Aggregate → List Value → Value
aggregated Min vs = taken lesser (present vs)
aggregated Max vs = taken greater (present vs)
aggregated Sum vs = whole (int_wrap w64 (total vs))
aggregated (Count true) vs = counted vs
aggregated (Count false) vs = counted (present vs)
aggregated NUnique vs = counted (distinct vs)
aggregated First vs = row vs 0
aggregated Last vs = row vs (length vs - 1)
aggregated Implode vs = listed (map single vs)

-- the truth value that a value isn't; null where it is none
abbrev pub negated : Value → Value
negated (truth b) = truth (not b)
negated _ = null

-- a value, and another where it is null
abbrev pub filled_null : Value → Value → Value
filled_null null y = y
filled_null x y = x

-- a sum at a value: null where that is null; whole numbers wrap at 64 bits
abbrev pub sum_at : Value → ℤ → Value
sum_at null n = null
sum_at v n = whole (int_wrap w64 n)

-- the sums up to each value, from a first number on; null where the value is
abbrev pub running_sums : ℤ → List Value → List Value
running_sums n [] = []
running_sums n (v ∷ vs) = sum_at v (n +ℤ number v) ∷ running_sums (n +ℤ number v) vs
