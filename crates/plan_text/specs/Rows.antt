-- The JSON values of tables.
use Rattle.std.specs.Prelude.{Option, codes}
use Rattle.serde_json.specs.Data.{Data, string, array, object, no_items, item, no_members, member}
use Rattle.plan_table.specs.declared.column.Column.{Column}
use Rattle.plan_table.specs.declared.table.Table.{Table}
use Rattle.plan_text_pieces.specs.Cells.{value_data}
use Rattle.plan_text_pieces.specs.Kinds.{type_text}
use Rattle.plan_text_pieces.specs.Values.{number_data, list_data, nullable_data}

-- a column of a table: its name, its type and its values from the first row on
abbrev pub column_data : Column → Data
column_data c = array (item (string c.name) (item (string (type_text c.dtype)) (item (list_data value_data c.values) no_items)))

-- a table: its columns in order, and how many rows it has
abbrev pub table_data : Table → Data
table_data t = object (member (codes "columns") (list_data column_data t.columns) (member (codes "height") (number_data t.height) no_members))

-- the rows that a plan gives, null where no table is told
abbrev pub rows_data : Option Table → Data
rows_data = nullable_data table_data
