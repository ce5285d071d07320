-- Plans worked out: groupings, a union and a selection over sorts.
use Rattle.std.specs.Prelude.{pos, Bool, false, [], ◌∷◌, Some, None, codes}
use Rattle.plan_core.specs.Columns.{Columns}
use Rattle.plan_core.specs.declared.options.FileScanOptions.{FileScanOptions}
use Rattle.plan_core.specs.declared.options.ProjectionOptions.{ProjectionOptions}
use Rattle.plan_tree.specs.Rose.{rose, no_roses, more}
use Rattle.plan_options.specs.declared.distinct.UniqueKeepStrategy.{UniqueKeepStrategy}
use Rattle.plan_options.specs.declared.group.GroupbyOptions.{GroupbyOptions}
use Rattle.plan_options.specs.declared.sort.SortMultipleOptions.{SortMultipleOptions}
use Rattle.plan_options.specs.declared.union.UnionOptions.{UnionOptions}
use Rattle.plan_expr.specs.declared.agg.Aggregate.{Aggregate}
use Rattle.plan_expr.specs.declared.agg.Aggregate.TheVariants.{Sum}
use Rattle.plan_expr.specs.declared.literal.LiteralValue.TheVariants.{Int64}
use Rattle.plan_expr.specs.declared.expr_ir.OutputName.TheVariants.{Alias, ColumnLhs}
use Rattle.plan_expr.specs.Exprs.{Expr, Named, aggregate, alias, column, literal}
use Rattle.plan_expr.specs.Leaves.{Name}
use Rattle.plan_scan.specs.declared.file_scan.FileScan.TheVariants.{Parquet}
use Rattle.plan_scan.specs.declared.sources.ScanSources.{ScanSources}
use Rattle.plan_ir.specs.declared.scan.FileInfo.{FileInfo}
use Rattle.plan_ir.specs.Plans.{Op, distinct, group_by, hstack, scan, select, sort, union, Plan}

-- a column of this name
abbrev pub column_called : Name → Expr
column_called a = rose tt (column a) no_roses

-- a column under its own name
abbrev pub own_column : Name → Named
own_column a = record { name = ColumnLhs a; expr = column_called a }

-- an aggregate of a column
abbrev pub aggregate_of : Aggregate → Name → Expr
aggregate_of op a = rose tt (aggregate op) (more (column_called a) no_roses)

-- the literal 1 under the name x
abbrev pub one_as_x : Named
one_as_x = record { name = Alias (codes "x"); expr = rose tt (literal (Int64 (pos 1))) no_roses }

-- a node over one input
abbrev pub over : Op → Plan → Plan
over op p = rose tt op (more p no_roses)

-- a scan of files that puts out all that it reads
abbrev pub scanned : ScanSources → FileInfo → FileScanOptions → Plan
scanned sources info options = rose tt (scan sources info None None None Parquet options) no_roses

-- the rows by t, not stable
abbrev pub by_t : SortMultipleOptions → Plan → Plan
by_t options p = over (sort (own_column (codes "t") ∷ []) None (record options { maintain_order = false })) p

-- an aggregate of v for each k, in any order
abbrev pub by_k : Aggregate → Columns → GroupbyOptions → Plan → Plan
by_k op schema options p = over (group_by (own_column (codes "k") ∷ []) (record { name = ColumnLhs (codes "v"); expr = aggregate_of op (codes "v") } ∷ []) schema false options) p

-- the sum of v for each k, named by a node of its own, in any order
abbrev pub named_sums : Columns → GroupbyOptions → Plan → Plan
named_sums schema options p = over (group_by (own_column (codes "k") ∷ []) (record { name = Alias (codes "s"); expr = rose tt (alias (codes "s")) (more (aggregate_of Sum (codes "v")) no_roses) } ∷ []) schema false options) p

-- each k once, in any order
abbrev pub keys_alone : Columns → GroupbyOptions → Plan → Plan
keys_alone schema options p = over (group_by (own_column (codes "k") ∷ []) [] schema false options) p

-- the sum of x for each x under the name s, in any order
abbrev pub sums_of_x : Columns → GroupbyOptions → Plan → Plan
sums_of_x schema options p = over (group_by (own_column (codes "x") ∷ []) (record { name = Alias (codes "s"); expr = aggregate_of Sum (codes "x") } ∷ []) schema false options) p

-- the rows with x, which is 1
abbrev pub with_x : Columns → ProjectionOptions → Plan → Plan
with_x schema options p = over (hstack (one_as_x ∷ []) schema options) p

-- x alone, which is 1
abbrev pub x_alone : Columns → ProjectionOptions → Plan → Plan
x_alone schema options p = over (select (one_as_x ∷ []) schema options) p

-- rows with distinct k, in any order
abbrev pub distinct_k : UniqueKeepStrategy → Plan → Plan
distinct_k keep p = over (distinct (record { subset = Some (codes "k" ∷ []); maintain_order = false; keep_strategy = keep; slice = None })) p

-- a union of two plans whose order is kept or not
abbrev pub both : Bool → UnionOptions → Plan → Plan → Plan
both ordered options p q = rose tt (union (record options { maintain_order = ordered })) (more p (more q no_roses))
