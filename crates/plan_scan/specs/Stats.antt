-- The columns that the folders of a path give: each has one value.
use Rattle.std.specs.Prelude.{◌≡◌, ℕ, suc, List, [], ◌∷◌, map, filter, if◌then◌else◌, slice_get}
use Rattle.std.specs.List.{AllByRecursion, flat_map}
use Rattle.std.specs.Option.{option_to_list}
use Rattle.plan_core.specs.Columns.{Columns}
use Rattle.plan_core.specs.Names.{has}
use Rattle.plan_core.specs.declared.data_type.DataType.{DataType}
use Rattle.plan_table.specs.declared.column.Column.{Column}
use Rattle.plan_table.specs.declared.value.AnyValue.{AnyValue}
use Rattle.plan_table.specs.Tables.{IsOf}
use Rattle.plan_scan.specs.declared.stats.ColumnStats.{ColumnStats}

-- columns with their values, in order
abbrev pub Stats : Type 0
Stats = List ColumnStats

-- a column with its value
abbrev pub stat : List ℕ × DataType → AnyValue → ColumnStats
stat c value = record { field = record { name = c.0; dtype = c.1 }; value = value }

-- its name and its type
abbrev pub column_of : ColumnStats → List ℕ × DataType
column_of s = (s.field.name, s.field.dtype)

-- their names and types, in order
abbrev pub columns_of : Stats → Columns
columns_of ss = map column_of ss

-- columns with values, one for one
abbrev pub with_values : Columns → List AnyValue → Stats
with_values [] vs = []
with_values (c ∷ cs) [] = []
with_values (c ∷ cs) (v ∷ vs) = stat c v ∷ with_values cs vs

-- there are as many values as columns, each null or of its column's type
abbrev pub Fits : Columns → List AnyValue → Type 0
Fits [] [] = Unit {0}
Fits [] (v ∷ vs) = ⊥
Fits (c ∷ cs) [] = ⊥
Fits (c ∷ cs) (v ∷ vs) = IsOf c.1 v × Fits cs vs

-- the value is null or of the type
abbrev pub HasType : ColumnStats → Type 0
HasType s = IsOf s.field.dtype s.value

-- the columns have these names and types, and each value is null or of its column's type
pub record AreOf (cs : Columns) (ss : Stats) : Type 0 where
  pub named : columns_of ss ≡ cs
  pub typed : AllByRecursion HasType ss

-- the columns at places, in the order of the places
abbrev pub stats_at : Stats → List ℕ → Stats
stats_at ss places = flat_map (λ (i : ℕ). option_to_list (slice_get ss i)) places

-- the columns whose names are among these
abbrev pub named_among : List (List ℕ) → Columns → Columns
named_among names cs = filter (λ (c : List ℕ × DataType). has names c.0) cs

-- their places, where the first column has this one
abbrev pub places_among : List (List ℕ) → ℕ → Columns → List ℕ
places_among names i [] = []
places_among names i (c ∷ cs) = if has names c.0 then i ∷ places_among names (suc i) cs else places_among names (suc i) cs

-- a column of one row
abbrev pub one_row : ColumnStats → Column
one_row s = record { name = s.field.name; dtype = s.field.dtype; values = s.value ∷ [] }
