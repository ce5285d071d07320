-- The tables that nodes and plans give.
use Rattle.std.specs.Prelude.{◌≡◌, ℕ, Bool, true, false, List, map, unwrap_or}
use Rattle.plan_core.specs.Columns.{Columns, type_of}
use Rattle.plan_core.specs.declared.data_type.DataType.{DataType}
use Rattle.plan_core.specs.declared.data_type.DataType.TheVariants.{Int64}
use Rattle.plan_expr.specs.declared.expr_ir.ExprIR.{ExprIR}
use Rattle.plan_expr.specs.Naming.{name_of}
use Rattle.plan_tree.specs.Rose.{Roses}
use Rattle.plan_ir.specs.declared.ir.IR.{IR}
use Rattle.plan_ir.specs.declared.ir.IR.TheVariants as nodes
use Rattle.plan_ir.specs.Plans.{Op, bare}
use Rattle.plan_meaning.specs.Typing.{schema_by, schemas}
use Rattle.plan_table.specs.declared.source_key.SourceKey.{SourceKey}
use Rattle.plan_table.specs.declared.table.Table.{Table}
use Rattle.plan_value.specs.Shown.{frame_of, schema_of}
use Rattle.plan_fit.specs.Sources.{contents_of}
use Rattle.plan_meaning.specs.Choices.{Chosen, ChooseAll}

-- the column of an expression, with the type that its name has among stored columns
abbrev pub stored_column : Columns → ExprIR → List ℕ × DataType
stored_column s e = (name_of e.output_name, unwrap_or (type_of s (name_of e.output_name)) Int64)

-- a union or a concatenation, which has as many inputs as it names
abbrev pub names_many : IR → Bool
names_many (nodes.Union inputs options) = true
names_many (nodes.HConcat inputs schema options) = true
names_many other = false

-- a node that gives other columns than its only input
abbrev pub makes_new : IR → Bool
makes_new (nodes.SimpleProjection input columns) = true
makes_new (nodes.Select input expr schema options) = true
makes_new (nodes.GroupBy input keys aggs schema maintain_order options) = true
makes_new other = false

-- a source or a join
abbrev pub stands_over_sides : IR → Bool
stands_over_sides (nodes.Scan sources file_info hive_parts predicate output_schema scan_type file_options) = true
stands_over_sides (nodes.DataFrameScan df schema output_schema) = true
stands_over_sides (nodes.Join input_left input_right schema left_on right_on options) = true
stands_over_sides other = false

-- a node gives this table over tables of its inputs, and its columns have the node's types
pub record Gives (ts : List (SourceKey × Table)) (op : Op) (inputs : List Table) (t : Table) : Type 0 where
  pub step : Chosen (contents_of ts) op (map frame_of inputs) (frame_of t)
  pub types : schema_of t ≡ schema_by op (map schema_of inputs)

-- plans give these tables, one for one, and their columns have the plans' types
pub record GiveAll {N : Type 0} (ts : List (SourceKey × Table)) (plans : Roses N Op) (tables : List Table) : Type 0 where
  pub chosen : ChooseAll (contents_of ts) (bare plans) (map frame_of tables)
  pub types : map schema_of tables ≡ schemas plans
