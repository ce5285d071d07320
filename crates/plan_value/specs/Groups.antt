-- Rows in groups: those that are the same in each of some keys.
use Rattle.std.specs.Prelude.{◌≡◌, ◌<◌, ℕ, Bool, true, false, List, length, map, nat_eq, get_or}
use Rattle.plan_table.specs.declared.value.AnyValue.{AnyValue}
use Rattle.plan_table.specs.declared.value.AnyValue.TheVariants.{Null}
use Rattle.plan_expr.specs.declared.agg.Aggregate.TheVariants.{Implode}
use Rattle.plan_frame.specs.Aggregates.{aggregated}
use Rattle.plan_frame.specs.Meaning.{Cell, are_alike, cell_values, only_value, places_from}
use Rattle.plan_frame.specs.Values.{Value}
use Rattle.plan_value.specs.declared.exprs.Values.{Values}
use Rattle.plan_value.specs.declared.exprs.Values.TheVariants as values

-- the value in a row; null where there is no such row
abbrev pub own_at : ℕ → Values → AnyValue
own_at i (values.One v) = v
own_at i (values.Many vs) = get_or vs i Null

-- the values of keys in a row
abbrev pub key_at : List Values → ℕ → List AnyValue
key_at keys i = map (own_at i) keys

-- the rows that have a number, of the numbers of all rows
abbrev pub rows_numbered : List ℕ → ℕ → List ℕ
rows_numbered numbers g = places_from (λ i. nat_eq g (get_or numbers i 0)) 0 (length numbers)

-- rows below a height have numbers below a count, and two have the same one just where they are the same in each key; the numbers come from 0 on in the order in which their rows first come, and each below the count comes
pub record AreNumbered (keys : List Cell) (h count : ℕ) (numbers : List ℕ) : Type 0 where
  pub height : length numbers ≡ h
  pub below : (i : ℕ) → i < h → get_or numbers i 0 < count
  pub same : (i j : ℕ) → i < h → j < h → nat_eq (get_or numbers i 0) (get_or numbers j 0) ≡ are_alike keys i j
  pub first : (i : ℕ) → i < h → (g : ℕ) → g < get_or numbers i 0 → (j : ℕ) × (j < i) × (get_or numbers j 0 ≡ g)
  pub all : (g : ℕ) → g < count → (j : ℕ) × (j < h) × (get_or numbers j 0 ≡ g)

-- one value for a group, of what an expression is over its rows: that of a scalar expression, and the list of the values of another
abbrev pub gathered_value : (scalar : Bool) → Cell → Value
gathered_value true c = only_value c
gathered_value false c = aggregated Implode (cell_values c)
