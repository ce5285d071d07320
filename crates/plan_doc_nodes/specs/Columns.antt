-- The nodes that choose or make columns: projections, selections, additions and groupings.
use Rattle.std.specs.Prelude.{ℕ, List, [], ◌∷◌, Option, Some, codes}
use Rattle.serde_json.specs.Data.{Data}
use Rattle.plan_core.specs.declared.options.ProjectionOptions.{ProjectionOptions}
use Rattle.plan_core.specs.Columns.{Columns}
use Rattle.plan_expr.specs.declared.expr_ir.ExprIR.{ExprIR}
use Rattle.plan_ir.specs.declared.ir.IR.{IR}
use Rattle.plan_ir.specs.declared.ir.IR.TheVariants as nodes
use Rattle.plan_doc_parts.specs.Parts.{◌>>=◌, nullable, link_of, truth_of, columns_of, outputs_of, slice_of, options_of}
use Rattle.plan_doc_parts.specs.Members.{object_of, at}

-- columns of the input
unfoldable pub simple_projection_of : Data → Option IR
simple_projection_of d = do
  o ← object_of (codes "columns" ∷ codes "input" ∷ codes "op" ∷ []) d
  c ← at (codes "columns") columns_of o
  i ← at (codes "input") link_of o
  Some (nodes.SimpleProjection i c)

-- the keys of a node that makes columns
unfoldable pub made_keys : List (List ℕ)
made_keys = codes "exprs" ∷ codes "input" ∷ codes "op" ∷ codes "options" ∷ codes "schema" ∷ []

-- the columns that a node makes
unfoldable pub made_of : Data → Option (List ExprIR × Columns × ProjectionOptions)
made_of o = do
  es ← at (codes "exprs") outputs_of o
  s ← at (codes "schema") columns_of o
  os ← at (codes "options") options_of o
  Some (es, s, os)

-- a column for each expression
unfoldable pub select_of : Data → Option IR
select_of d = do
  o ← object_of made_keys d
  i ← at (codes "input") link_of o
  m ← made_of o
  Some (nodes.Select i m.0 m.1 m.2)

-- the columns of the input, and one for each expression
unfoldable pub hstack_of : Data → Option IR
hstack_of d = do
  o ← object_of made_keys d
  i ← at (codes "input") link_of o
  m ← made_of o
  Some (nodes.HStack i m.0 m.1 m.2)

-- the keys of a grouping's object
unfoldable pub group_by_keys : List (List ℕ)
group_by_keys = codes "aggs" ∷ codes "input" ∷ codes "keys" ∷ codes "maintain_order" ∷ codes "op" ∷ codes "schema" ∷ codes "slice" ∷ []

-- the keys, the aggregates and the columns of a grouping
unfoldable pub grouped_of : Data → Option (List ExprIR × List ExprIR × Columns)
grouped_of o = do
  ks ← at (codes "keys") outputs_of o
  others ← at (codes "aggs") outputs_of o
  s ← at (codes "schema") columns_of o
  Some (ks, others, s)

-- a row for each group of rows that have the same keys
unfoldable pub group_by_of : Data → Option IR
group_by_of d = do
  o ← object_of group_by_keys d
  i ← at (codes "input") link_of o
  g ← grouped_of o
  m ← at (codes "maintain_order") truth_of o
  s ← at (codes "slice") (nullable slice_of) o
  Some (nodes.GroupBy i g.0 g.1 g.2 m (record { slice = s }))
