-- The JSON values of hive parts.
use Rattle.std.specs.Prelude.{List}
use Rattle.serde_json.specs.Data.{Data, string, array, no_items, item}
use Rattle.plan_scan.specs.Stats.{Stats}
use Rattle.plan_scan.specs.declared.stats.ColumnStats.{ColumnStats}
use Rattle.plan_text_pieces.specs.Cells.{value_data}
use Rattle.plan_text_pieces.specs.Kinds.{type_text}
use Rattle.plan_text_pieces.specs.Values.{list_data}

-- a column that has one value: its name, its type and its value
abbrev pub hive_column_data : ColumnStats → Data
hive_column_data s = array (item (string s.field.name) (item (string (type_text s.field.dtype)) (item (value_data s.value) no_items)))

-- the columns of one source
abbrev pub hive_part_data : Stats → Data
hive_part_data ss = list_data hive_column_data ss

-- the columns of each source
abbrev pub hive_parts_data : List Stats → Data
hive_parts_data parts = list_data hive_part_data parts
