-- The typed values that parts of a document stand for.
use Rattle.std.specs.Prelude.{List, Option, Some, if◌then◌else◌, is_some}
use Rattle.serde_json.specs.Data.{Data}
use Rattle.serde_json.specs.Find.{as_null}
use Rattle.plan_core.specs.declared.data_type.DataType.{DataType}
use Rattle.plan_core.specs.declared.data_type.DataType.TheVariants as types
use Rattle.plan_core.specs.declared.data_type.PlainType.{PlainType}
use Rattle.plan_core.specs.declared.data_type.PlainType.TheVariants as plains
use Rattle.plan_table.specs.declared.value.AnyValue.{AnyValue}
use Rattle.plan_table.specs.declared.value.AnyValue.TheVariants as values
use Rattle.plan_table.specs.declared.value.PlainValue.{PlainValue}
use Rattle.plan_table.specs.declared.value.PlainValue.TheVariants as singles
use Rattle.plan_doc_parts.specs.Parts.{◌>>=◌, each, entries_of, name_of, integer_of, truth_of}

-- a single value of the type
abbrev pub typed_single_of : PlainType → Data → Option PlainValue
typed_single_of plains.Int64 d = do
  n ← integer_of d
  Some (singles.Int64 n)
typed_single_of plains.String d = do
  s ← name_of d
  Some (singles.String s)
typed_single_of plains.Boolean d = do
  b ← truth_of d
  Some (singles.Boolean b)

-- null, or a single value of the type
abbrev pub single_value_of : PlainType → Data → Option PlainValue
single_value_of t d = if is_some (as_null d) then Some singles.Null else typed_single_of t d

-- an array of single values, each null or of the type
unfoldable pub single_values_of : PlainType → Data → Option (List PlainValue)
single_values_of t d = do
  ds ← entries_of d
  each (single_value_of t) ds

-- a value of the type
abbrev pub typed_value_of : DataType → Data → Option AnyValue
typed_value_of types.Int64 d = do
  n ← integer_of d
  Some (values.Int64 n)
typed_value_of types.String d = do
  s ← name_of d
  Some (values.String s)
typed_value_of types.Boolean d = do
  b ← truth_of d
  Some (values.Boolean b)
typed_value_of (types.List t) d = do
  vs ← single_values_of t d
  Some (values.List vs)

-- null, or a value of the type
abbrev pub any_value_of : DataType → Data → Option AnyValue
any_value_of t d = if is_some (as_null d) then Some values.Null else typed_value_of t d

-- an array of values, each null or of the type
unfoldable pub any_values_of : DataType → Data → Option (List AnyValue)
any_values_of t d = do
  ds ← entries_of d
  each (any_value_of t) ds
