-- Plans worked out: a join of two projections on caches of one number over a scan of three columns, with and without filters.
use Rattle.std.specs.Prelude.{ℕ, pos, Bool, true, false, List, [], ◌∷◌, Option, None, Some, codes}
use Rattle.plan_core.specs.declared.data_type.DataType.TheVariants as types
use Rattle.plan_core.specs.declared.options.FileScanOptions.{FileScanOptions}
use Rattle.plan_core.specs.Columns.{Columns}
use Rattle.plan_options.specs.declared.join.JoinCoalesce.TheVariants.{JoinSpecific}
use Rattle.plan_options.specs.declared.join.JoinType.TheVariants.{Inner}
use Rattle.plan_options.specs.declared.join.MaintainOrderJoin.TheVariants as orders
use Rattle.plan_tree.specs.Rose.{rose, no_roses, more}
use Rattle.plan_expr.specs.declared.expr_ir.OutputName.TheVariants.{ColumnLhs}
use Rattle.plan_expr.specs.declared.literal.LiteralValue.TheVariants as literals
use Rattle.plan_expr.specs.declared.operator.Operator.TheVariants.{Gt}
use Rattle.plan_expr.specs.Exprs.{column, literal, binary, Named}
use Rattle.plan_expr.specs.Leaves.{Name}
use Rattle.plan_scan.specs.declared.file_scan.FileScan.TheVariants.{Parquet}
use Rattle.plan_scan.specs.declared.sources.ScanSources.TheVariants.{Paths}
use Rattle.plan_ir.specs.declared.scan.FileInfo.{FileInfo}
use Rattle.plan_ir.specs.Plans.{Op, filter, scan, simple_projection, join, cache, Plan}

-- the names a and b
abbrev pub names_ab : List Name
names_ab = codes "a" ∷ codes "b" ∷ []

-- the name a
abbrev pub names_a : List Name
names_a = codes "a" ∷ []

-- columns of whole numbers
abbrev pub numbers : List Name → Columns
numbers [] = []
numbers (a ∷ names) = (a, types.Int64) ∷ numbers names

-- what the reader of the scanned file finds: a and b of whole numbers, and c of texts
abbrev pub file_info : FileInfo
file_info = record { schema = (codes "a", types.Int64) ∷ (codes "b", types.Int64) ∷ (codes "c", types.String) ∷ []; reader_schema = Some ((codes "a", types.Int64) ∷ (codes "b", types.Int64) ∷ (codes "c", types.String) ∷ []) }

-- a scan that reads these names, or all, and neither numbers its rows nor has their paths
abbrev pub scanned : Option (List Name) → Option Columns → FileScanOptions → Plan
scanned told output options = rose tt (scan (Paths (codes "t" ∷ [])) file_info None None output Parquet (record options { with_columns = told; row_index = None; include_file_paths = None })) no_roses

-- a node over one input
abbrev pub node : Op → Plan → Plan
node op p = rose tt op (more p no_roses)

-- the column a
abbrev pub key : Named
key = record { name = ColumnLhs (codes "a"); expr = rose tt (column (codes "a")) no_roses }

-- an inner join on a, with a mark or without
abbrev pub joined_on_a : Bool → Op
joined_on_a mark = join (key ∷ []) (key ∷ []) (numbers names_ab) (record {
  allow_parallel = mark;
  force_parallel = false;
  args = record { how = Inner; coalesce = JoinSpecific; suffix = None; join_nulls = false; maintain_order = orders.None; slice = None };
  options = None;
})

-- a condition: a is greater than a number
abbrev pub above : ℕ → Named
above n = record { name = ColumnLhs (codes "a"); expr = rose tt (binary Gt) (more (rose tt (column (codes "a")) no_roses) (more (rose tt (literal (literals.Int64 (pos n))) no_roses) no_roses)) }

-- the join of the projections to a, b and to a on the caches
abbrev pub projected_caches : FileScanOptions → Plan
projected_caches options = rose tt (joined_on_a true)
    (more (node (simple_projection (numbers names_ab)) (node (cache 0 0) (scanned None None options)))
    (more (node (simple_projection (numbers names_a)) (node (cache 0 0) (scanned None None options))) no_roses))

-- the scan that reads a and b, under the projection that cuts the input of a site and the one that pruning puts on a scan
abbrev pub narrowed_scan : FileScanOptions → Plan
narrowed_scan options = node (simple_projection (numbers names_ab)) (node (simple_projection (numbers names_ab)) (scanned (Some names_ab) (Some (numbers names_ab)) options))

-- the same join with both inputs narrowed to a and b, and without its mark
abbrev pub narrowed_caches : FileScanOptions → Plan
narrowed_caches options = rose tt (joined_on_a false)
    (more (node (simple_projection (numbers names_ab)) (node (cache 0 0) (narrowed_scan options)))
    (more (node (simple_projection (numbers names_a)) (node (cache 0 0) (narrowed_scan options))) no_roses))

-- the join with filters of different conditions between projections and caches
abbrev pub filtered_caches : FileScanOptions → Plan
filtered_caches options = rose tt (joined_on_a true)
    (more (node (simple_projection (numbers names_ab)) (node (filter (above 1)) (node (cache 0 0) (scanned None None options))))
    (more (node (simple_projection (numbers names_a)) (node (filter (above 2)) (node (cache 0 0) (scanned None None options)))) no_roses))
