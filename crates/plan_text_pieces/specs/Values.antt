-- The JSON values of what nodes and expressions are told: numbers, names, columns, expressions that are put out.
use Rattle.std.specs.Prelude.{ℕ, ℤ, Bool, List, map, Option, Some, None, codes}
use Rattle.serde_json.specs.Data as json
use Rattle.serde_json.specs.Data.{Data, unsigned, number, boolean, string, array, object, no_items, item, no_members, member}
use Rattle.serde_json.specs.Find.{of_integer}
use Rattle.serde_json.specs.View.{items_of}
use Rattle.plan_core.specs.Columns.{Columns}
use Rattle.plan_core.specs.declared.arena.Node.{Node}
use Rattle.plan_core.specs.declared.data_type.DataType.{DataType}
use Rattle.plan_core.specs.declared.options.ProjectionOptions.{ProjectionOptions}
use Rattle.plan_core.specs.declared.options.RowIndex.{RowIndex}
use Rattle.plan_expr.specs.declared.expr_ir.ExprIR.{ExprIR}
use Rattle.plan_scan.specs.declared.sources.ScanSources.{ScanSources}
use Rattle.plan_scan.specs.declared.sources.ScanSources.TheVariants as sources
use Rattle.plan_text_pieces.specs.Kinds.{type_text}
use Rattle.plan_text_pieces.specs.Origins.{origin_text, name_text}

-- the number of a node or of an expression
abbrev pub link_data : Node → Data
link_data n = number (unsigned n.0)

-- a whole number
abbrev pub integer_data : ℤ → Data
integer_data z = number (of_integer z)

-- a number from 0 on
abbrev pub number_data : ℕ → Data
number_data n = number (unsigned n)

-- an array of what each value gives
unfoldable pub list_data : {A : Type 0} → (A → Data) → List A → Data
list_data f xs = array (items_of (map f xs))

-- null where there is no value
abbrev pub nullable_data : {A : Type 0} → (A → Data) → Option A → Data
nullable_data f None = json.null
nullable_data f (Some x) = f x

-- a pair
abbrev pub two_data : Data → Data → Data
two_data a b = array (item a (item b no_items))

-- the object of one key
abbrev pub only_data : List ℕ → Data → Data
only_data k d = object (member k d no_members)

-- a column: its name and its type
abbrev pub field_data : List ℕ × DataType → Data
field_data f = two_data (string f.0) (string (type_text f.1))

-- the columns of a schema
abbrev pub columns_data : Columns → Data
columns_data cs = list_data field_data cs

-- names
abbrev pub names_data : List (List ℕ) → Data
names_data ns = list_data string ns

-- truths
abbrev pub truths_data : List Bool → Data
truths_data bs = list_data boolean bs

-- an expression that is put out under a name
unfoldable pub output_data : ExprIR → Data
output_data e = array (item (link_data e.node) (item (string (origin_text e.output_name)) (item (string (name_text e.output_name)) no_items)))

-- expressions that are put out under names
abbrev pub outputs_data : List ExprIR → Data
outputs_data es = list_data output_data es

-- what a node that makes columns may do
unfoldable pub options_data : ProjectionOptions → Data
options_data o = array (item (boolean o.run_parallel) (item (boolean o.duplicate_check) (item (boolean o.should_broadcast) no_items)))

-- the first row, and how many rows
abbrev pub slice_data : ℤ × ℕ → Data
slice_data s = two_data (integer_data s.0) (number_data s.1)

-- the column that numbers the rows
abbrev pub row_index_data : RowIndex → Data
row_index_data r = two_data (string r.name) (number_data r.offset)

-- the object of paths
abbrev pub paths_data : List (List ℕ) → Data
paths_data ps = object (member (codes "paths") (names_data ps) no_members)

-- the object of the numbers of buffers
abbrev pub buffers_data : List ℕ → Data
buffers_data ns = object (member (codes "buffers") (list_data number_data ns) no_members)

-- where a scan reads from
abbrev pub sources_data : ScanSources → Data
sources_data (sources.Paths ps) = paths_data ps
sources_data (sources.Buffers ns) = buffers_data ns
