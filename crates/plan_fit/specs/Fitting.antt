-- Which tables fit a plan: each source that it reads has a table with the columns that it needs, of their types.
use Rattle.std.specs.Prelude.{◌≡◌, ℕ, true, List, [], ◌∷◌, ◌++◌, map, Some, None, IfSome}
use Rattle.std.specs.List.{AllByRecursion}
use Rattle.plan_core.specs.declared.data_type.DataType.{DataType}
use Rattle.plan_core.specs.Columns.{Columns}
use Rattle.plan_tree.specs.Rose.{Roses, rose, no_roses, more}
use Rattle.plan_scan.specs.Source.{Source}
use Rattle.plan_scan.specs.Sources.{sources_of}
use Rattle.plan_ir.specs.Plans.{Op, slice, filter, scan, frame_scan, simple_projection, select, hstack, sort, group_by, join, distinct, map_function, sink, union, hconcat, cache, invalid}
use Rattle.plan_ir.specs.declared.functions.FunctionIR.{FunctionIR}
use Rattle.plan_ir.specs.declared.functions.FunctionIR.TheVariants.{Rename, RowIndex, Unpivot, Explode, FastCount}
use Rattle.plan_meaning.specs.Checks.{is_column}
use Rattle.plan_meaning.specs.Typing.{reader_columns}
use Rattle.plan_table.specs.declared.source_key.SourceKey.{SourceKey}
use Rattle.plan_table.specs.declared.source_key.SourceKey.TheVariants as keys
use Rattle.plan_table.specs.declared.table.Table.{Table}
use Rattle.plan_table.specs.Tables.{IsTable, table_at, types_of}
use Rattle.plan_fit.specs.Sources.{key_of}

-- a source, with columns that its table needs
abbrev pub Need : Type 0
Need = SourceKey × Columns

-- a table has each of these columns, of its type, among others
abbrev pub HasColumns : Columns → Table → Type 0
HasColumns s t = AllByRecursion (λ (c : List ℕ × DataType). is_column (types_of t.columns) c ≡ true) s

-- a source has a table with the columns that it needs
abbrev pub IsMet : List (SourceKey × Table) → Need → Type 0
IsMet ts need = (t : Table) × (table_at ts need.0 ≡ Some t) × HasColumns need.1 t

-- the tables that meet needs are well formed
abbrev pub AreFormed : List (SourceKey × Table) → List Need → Type 0
AreFormed ts ns = AllByRecursion (λ (n : Need). IfSome (table_at ts n.0) IsTable) ns

-- a source has a well-formed table with these columns
abbrev pub HasOwn : List (SourceKey × Table) → Columns → Source → Type 0
HasOwn ts columns s = IsMet ts (key_of s, columns) × IfSome (table_at ts (key_of s)) IsTable

-- what sources need of which these columns are read
abbrev pub source_needs : List Source → Columns → List Need
source_needs sources columns = map (λ (s : Source). (key_of s, columns)) sources

-- what a function needs: the sources whose rows are counted tables, whatever their columns
abbrev pub function_needs : FunctionIR → List Need
function_needs (Rename existing new swapping) = []
function_needs (RowIndex name offset) = []
function_needs (Unpivot args) = []
function_needs (Explode columns) = []
function_needs (FastCount sources scan_type alias) = source_needs (sources_of sources) []

-- what a node needs: the sources of a scan the columns that its reader finds, a frame that is handed in its columns, and a function what it needs
abbrev pub needs_by : Op → List Need
needs_by (slice offset len) = []
needs_by (filter predicate) = []
needs_by (scan sources info hive predicate output kind options) = source_needs (sources_of sources) (reader_columns info)
needs_by (frame_scan None schema output) = []
needs_by (frame_scan (Some i) schema output) = (keys.Frame i, schema) ∷ []
needs_by (simple_projection columns) = []
needs_by (select exprs schema options) = []
needs_by (hstack exprs schema options) = []
needs_by (sort keys part options) = []
needs_by (group_by keys aggs schema ordered options) = []
needs_by (join left_on right_on schema told) = []
needs_by (distinct options) = []
needs_by (map_function function) = function_needs function
needs_by (sink payload) = []
needs_by (union options) = []
needs_by (hconcat schema options) = []
needs_by (cache id hits) = []
needs_by invalid = []

-- what the nodes of plans need, in walk order
abbrev pub needs : {N : Type 0} → Roses N Op → List Need
needs no_roses = []
needs (more (rose n op ts) rest) = needs_by op ++ (needs ts ++ needs rest)

-- tables fit plans: each source that they read has a table with the columns that it needs
abbrev pub TablesFit : {N : Type 0} → List (SourceKey × Table) → Roses N Op → Type 0
TablesFit ts plans = AllByRecursion (IsMet ts) (needs plans)
