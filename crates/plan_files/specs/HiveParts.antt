-- The hive parts of a scan: of each source the columns that have one value in all its rows.
use Rattle.std.specs.Prelude.{ℕ, ◌==◌, Bool, true, false, ◌&&◌, List, [], ◌∷◌, length, Option, None, Some}
use Rattle.std.specs.List.{list_all}
use Rattle.plan_core.specs.Columns.{same_columns}
use Rattle.plan_core.specs.declared.data_type.DataType.{DataType}
use Rattle.plan_core.specs.declared.data_type.DataType.TheVariants as types
use Rattle.plan_core.specs.declared.data_type.PlainType.{PlainType}
use Rattle.plan_core.specs.declared.data_type.PlainType.TheVariants as plains
use Rattle.plan_table.specs.declared.value.AnyValue.{AnyValue}
use Rattle.plan_table.specs.declared.value.AnyValue.TheVariants as values
use Rattle.plan_table.specs.declared.value.PlainValue.{PlainValue}
use Rattle.plan_table.specs.declared.value.PlainValue.TheVariants as singles
use Rattle.plan_scan.specs.Stats.{Stats, columns_of}
use Rattle.plan_scan.specs.declared.stats.ColumnStats.{ColumnStats}
use Rattle.plan_files.specs.FileColumns.{hive_columns}

-- whether a single value is null or of a type
abbrev pub is_single_of : PlainType → PlainValue → Bool
is_single_of t singles.Null = true
is_single_of plains.Int64 (singles.Int64 n) = true
is_single_of plains.String (singles.String s) = true
is_single_of plains.Boolean (singles.Boolean b) = true
is_single_of _ _ = false

-- whether a value is null or of a type; a list is where each value in it is null or of the type of its values
abbrev pub is_of : DataType → AnyValue → Bool
is_of t values.Null = true
is_of types.Int64 (values.Int64 n) = true
is_of types.String (values.String s) = true
is_of types.Boolean (values.Boolean b) = true
is_of (types.List t) (values.List vs) = list_all (is_single_of t) vs
is_of _ _ = false

-- whether each value of a part is null or of its column's type
abbrev pub are_typed : Stats → Bool
are_typed part = list_all (λ (s : ColumnStats). is_of s.field.dtype s.value) part

-- whether the parts have the columns of the first, with values of their types
abbrev pub are_alike : Option (List Stats) → Bool
are_alike None = true
are_alike (Some parts) = list_all (λ (part : Stats). same_columns (hive_columns (Some parts)) (columns_of part) && are_typed part) parts

-- whether there is one part for each of so many sources, and at least one, where parts are given
abbrev pub are_one_each : Option (List Stats) → ℕ → Bool
are_one_each None n = true
are_one_each (Some []) n = false
are_one_each (Some (part ∷ parts)) n = length (part ∷ parts) == n
