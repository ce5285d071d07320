-- The frames that tables are, and the types of their columns.
use Rattle.std.specs.Prelude.{List, map}
use Rattle.plan_core.specs.Columns.{Columns}
use Rattle.plan_table.specs.declared.value.AnyValue.{AnyValue}
use Rattle.plan_table.specs.declared.value.AnyValue.TheVariants.{Null, Int64, String, Boolean, List as ListOf}
use Rattle.plan_table.specs.declared.value.PlainValue.{PlainValue}
use Rattle.plan_table.specs.declared.value.PlainValue.TheVariants as singles
use Rattle.plan_table.specs.declared.column.Column.{Column as Typed}
use Rattle.plan_table.specs.declared.table.Table.{Table}
use Rattle.plan_table.specs.Tables.{types_of}
use Rattle.plan_frame.specs.Values.{Single, no_single, single_whole, single_text, single_truth, Value, null, whole, text, truth, listed}
use Rattle.plan_frame.specs.Frames.{Frame, Column}

-- what a single value of a table is
abbrev pub single_of : PlainValue → Single
single_of singles.Null = no_single
single_of (singles.Int64 n) = single_whole n
single_of (singles.String s) = single_text s
single_of (singles.Boolean b) = single_truth b

-- what a value of a table is
abbrev pub value_of : AnyValue → Value
value_of Null = null
value_of (Int64 n) = whole n
value_of (String s) = text s
value_of (Boolean b) = truth b
value_of (ListOf vs) = listed (map single_of vs)

-- what values of a table are, in order
abbrev pub values_of : List AnyValue → List Value
values_of vs = map value_of vs

-- a column of a table, without its type
abbrev pub column_shown : Typed → Column
column_shown c = record { name = c.name; values = values_of c.values }

-- columns of a table, in order
abbrev pub columns_shown : List Typed → List Column
columns_shown cs = map column_shown cs

-- the frame that a table is
abbrev pub frame_of : Table → Frame
frame_of t = record { height = t.height; columns = columns_shown t.columns }

-- the types of the columns of a table, by their names
abbrev pub schema_of : Table → Columns
schema_of t = types_of t.columns
