-- The tables that a document comes with.
use Rattle.std.specs.Prelude.{ℕ, ◌==◌, List, [], ◌∷◌, length, map, Option, Some, None, is_some, if◌then◌else◌, codes, bytes_eq}
use Rattle.std.specs.Map.{keys_of}
use Rattle.serde_json.specs.Data.{Data}
use Rattle.serde_json.specs.Find.{get}
use Rattle.plan_table.specs.declared.column.Column.{Column}
use Rattle.plan_table.specs.declared.source_key.SourceKey.{SourceKey}
use Rattle.plan_table.specs.declared.source_key.SourceKey.TheVariants as keys
use Rattle.plan_table.specs.declared.table.Table.{Table}
use Rattle.plan_table.specs.declared.value.AnyValue.{AnyValue}
use Rattle.plan_table.specs.Tables.{same_key}
use Rattle.plan_doc_parts.specs.Parts.{◌>>=◌, each, entries_of, name_of, number_of, three_of, type_of, are_distinct}
use Rattle.plan_doc_parts.specs.Members.{object_of, at}
use Rattle.plan_doc_parts.specs.Values.{any_values_of}

-- values, if there are so many
abbrev pub so_many : ℕ → List AnyValue → Option (List AnyValue)
so_many h vs = if length vs == h then Some vs else None

-- a name with a type and so many values, each null or of the type
unfoldable pub table_column_of : ℕ → Data → Option Column
table_column_of h d = do
  p ← three_of d
  n ← name_of p.0
  t ← type_of p.1
  vs ← any_values_of t p.2
  all ← so_many h vs
  Some (record { name = n; dtype = t; values = all })

-- the names of the columns of a table
abbrev pub table_names : List Column → List (List ℕ)
table_names cs = map (λ (c : Column). c.name) cs

-- columns, if no name stands twice
abbrev pub distinctly_named : List Column → Option (List Column)
distinctly_named cs = if are_distinct bytes_eq (table_names cs) then Some cs else None

-- columns of so many values, no name twice
unfoldable pub table_columns_of : ℕ → Data → Option (List Column)
table_columns_of h d = do
  ds ← entries_of d
  cs ← each (table_column_of h) ds
  distinctly_named cs

-- the file of a path
unfoldable pub path_key_of : Data → Option SourceKey
path_key_of d = do
  o ← object_of (codes "path" ∷ []) d
  p ← at (codes "path") name_of o
  Some (keys.Path p)

-- the buffer of a number
unfoldable pub buffer_key_of : Data → Option SourceKey
buffer_key_of d = do
  o ← object_of (codes "buffer" ∷ []) d
  n ← at (codes "buffer") number_of o
  Some (keys.Buffer n)

-- the frame of a number
unfoldable pub frame_key_of : Data → Option SourceKey
frame_key_of d = do
  o ← object_of (codes "frame" ∷ []) d
  n ← at (codes "frame") number_of o
  Some (keys.Frame n)

-- the source that an object of one key names
abbrev pub source_key_of : Data → Option SourceKey
source_key_of d =
    if is_some (get (codes "path") d) then path_key_of d else (
    if is_some (get (codes "buffer") d) then buffer_key_of d else frame_key_of d)

-- a source with its table
unfoldable pub table_of : Data → Option (SourceKey × Table)
table_of d = do
  o ← object_of (codes "columns" ∷ codes "height" ∷ codes "source" ∷ []) d
  source ← get (codes "source") o
  key ← source_key_of source
  h ← at (codes "height") number_of o
  columns ← get (codes "columns") o
  cs ← table_columns_of h columns
  Some (key, record { height = h; columns = cs })

-- tables, if no source stands twice
abbrev pub distinctly_kept : List (SourceKey × Table) → Option (List (SourceKey × Table))
distinctly_kept ts = if are_distinct same_key (keys_of ts) then Some ts else None

-- sources with their tables, no source twice
unfoldable pub tables_of : Data → Option (List (SourceKey × Table))
tables_of d = do
  ds ← entries_of d
  ts ← each table_of ds
  distinctly_kept ts
