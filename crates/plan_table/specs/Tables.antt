-- Tables: values, columns, and what sources hold.
use Rattle.std.specs.Prelude.{◌≡◌, ℕ, ◌==◌, Bool, false, List, [], ◌∷◌, Option, None, Some, if◌then◌else◌, map, length}
use Rattle.std.specs.Map.{lookup, keys_of}
use Rattle.std.specs.List.{AllByRecursion, IsDistinct}
use Rattle.std.specs.Str.{bytes_eq}
use Rattle.plan_core.specs.Columns.{Columns, HasDistinctNames}
use Rattle.plan_core.specs.declared.data_type.DataType.{DataType}
use Rattle.plan_core.specs.declared.data_type.DataType.TheVariants as types
use Rattle.plan_core.specs.declared.data_type.PlainType.{PlainType}
use Rattle.plan_core.specs.declared.data_type.PlainType.TheVariants as plains
use Rattle.plan_table.specs.declared.column.Column.{Column}
use Rattle.plan_table.specs.declared.source_key.SourceKey.{SourceKey}
use Rattle.plan_table.specs.declared.source_key.SourceKey.TheVariants.{Path, Buffer, Frame}
use Rattle.plan_table.specs.declared.table.Table.{Table}
use Rattle.plan_table.specs.declared.value.AnyValue.{AnyValue}
use Rattle.plan_table.specs.declared.value.AnyValue.TheVariants as values
use Rattle.plan_table.specs.declared.value.PlainValue.{PlainValue}
use Rattle.plan_table.specs.declared.value.PlainValue.TheVariants as singles

-- a single value is null or of a type
abbrev pub IsPlainOf : PlainType → PlainValue → Type 0
IsPlainOf t singles.Null = Unit {0}
IsPlainOf plains.Int64 (singles.Int64 n) = Unit {0}
IsPlainOf plains.String (singles.String s) = Unit {0}
IsPlainOf plains.Boolean (singles.Boolean b) = Unit {0}
IsPlainOf _ _ = ⊥

-- a value is null or of a type; a list is where each value in it is null or of the type of its values
abbrev pub IsOf : DataType → AnyValue → Type 0
IsOf t values.Null = Unit {0}
IsOf types.Int64 (values.Int64 n) = Unit {0}
IsOf types.String (values.String s) = Unit {0}
IsOf types.Boolean (values.Boolean b) = Unit {0}
IsOf (types.List t) (values.List vs) = AllByRecursion (IsPlainOf t) vs
IsOf _ _ = ⊥

-- the first column of a name, if there is one
abbrev pub column_of : List Column → List ℕ → Option Column
column_of [] name = None
column_of (c ∷ cs) name = if bytes_eq name c.name then Some c else column_of cs name

-- the columns where this one stands in the place of the first of its name, or last
abbrev pub with_column : List Column → Column → List Column
with_column [] c = c ∷ []
with_column (d ∷ cs) c = if bytes_eq c.name d.name then c ∷ cs else d ∷ with_column cs c

-- the names of columns with their types, in order
abbrev pub types_of : List Column → Columns
types_of cs = map (λ (c : Column). (c.name, c.dtype)) cs

-- a column has so many values, each null or of its type
abbrev pub IsColumn : ℕ → Column → Type 0
IsColumn h c = (length c.values ≡ h) × AllByRecursion (IsOf c.dtype) c.values

-- each column of a table has a value of its type for each row
abbrev pub HasRows : Table → Type 0
HasRows t = AllByRecursion (IsColumn t.height) t.columns

-- a table is well formed: each column has a value of its type for each row, and no name stands twice
abbrev pub IsTable : Table → Type 0
IsTable t = HasRows t × HasDistinctNames (types_of t.columns)

-- whether two keys are of one kind, with the same path or number
abbrev pub same_key : SourceKey → SourceKey → Bool
same_key (Path a) (Path b) = bytes_eq a b
same_key (Buffer i) (Buffer j) = i == j
same_key (Frame i) (Frame j) = i == j
same_key _ _ = false

-- the table of a source, if it has one
abbrev pub table_at : List (SourceKey × Table) → SourceKey → Option Table
table_at ts key = lookup (same_key key) ts

-- no source stands twice, and each table is well formed
abbrev pub AreTables : List (SourceKey × Table) → Type 0
AreTables ts = IsDistinct same_key (keys_of ts) × AllByRecursion (λ (p : SourceKey × Table). IsTable p.1) ts
