-- The hive parts that a value stands for: of each source the columns that have one value in all its rows.
use Rattle.std.specs.Prelude.{List, Option, Some}
use Rattle.serde_json.specs.Data.{Data}
use Rattle.plan_scan.specs.Stats.{Stats, stat, columns_of}
use Rattle.plan_scan.specs.declared.stats.ColumnStats.{ColumnStats}
use Rattle.plan_doc_parts.specs.Parts.{◌>>=◌, each, entries_of, name_of, three_of, type_of, distinct_columns}
use Rattle.plan_doc_parts.specs.Values.{any_value_of}

-- a name with a type and a value, null or of the type
unfoldable pub hive_column_of : Data → Option ColumnStats
hive_column_of d = do
  p ← three_of d
  n ← name_of p.0
  t ← type_of p.1
  v ← any_value_of t p.2
  Some (stat (n, t) v)

-- columns with values, if no name stands twice
abbrev pub distinct_stats : Stats → Option Stats
distinct_stats ss = do
  named ← distinct_columns (columns_of ss)
  Some ss

-- the columns of one source, no name twice
unfoldable pub hive_part_of : Data → Option Stats
hive_part_of d = do
  ds ← entries_of d
  ss ← each hive_column_of ds
  distinct_stats ss

-- the columns of each source
unfoldable pub hive_parts_of : Data → Option (List Stats)
hive_parts_of d = do
  ds ← entries_of d
  each hive_part_of ds
