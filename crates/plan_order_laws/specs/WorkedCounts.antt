-- Counts worked out: the number of rows of a scan of files, and of a union of such scans.
use Rattle.std.specs.Prelude.{List, [], ◌∷◌, Option, None}
use Rattle.plan_core.specs.Columns.{Columns}
use Rattle.plan_core.specs.declared.options.FileScanOptions.{FileScanOptions}
use Rattle.plan_core.specs.declared.options.ProjectionOptions.{ProjectionOptions}
use Rattle.plan_tree.specs.Rose.{rose, no_roses, more}
use Rattle.plan_options.specs.declared.union.UnionOptions.{UnionOptions}
use Rattle.plan_expr.specs.declared.expr_ir.OutputName.{OutputName}
use Rattle.plan_expr.specs.Exprs.{len}
use Rattle.plan_expr.specs.Leaves.{Name}
use Rattle.plan_scan.specs.declared.file_scan.FileScan.{FileScan}
use Rattle.plan_scan.specs.declared.sources.ScanSources.TheVariants.{Paths}
use Rattle.plan_ir.specs.declared.functions.FunctionIR.TheVariants.{FastCount}
use Rattle.plan_ir.specs.declared.scan.FileInfo.{FileInfo}
use Rattle.plan_ir.specs.Plans.{frame_scan, map_function, scan, select, simple_projection, union, Plan}

-- a scan of the file of a path that puts out all that it reads
abbrev pub scanned : FileScan → Name → FileInfo → FileScanOptions → Plan
scanned kind path info options = rose tt (scan (Paths (path ∷ [])) info None None None kind options) no_roses

-- the number of rows of a plan, under this output name
abbrev pub rows_number : OutputName → Columns → ProjectionOptions → Plan → Plan
rows_number name schema options p = rose tt (select (record { name = name; expr = rose tt len no_roses } ∷ []) schema options) (more p no_roses)

-- a projection of a plan
abbrev pub projected : Columns → Plan → Plan
projected columns p = rose tt (simple_projection columns) (more p no_roses)

-- a union of three plans
abbrev pub three : UnionOptions → Plan → Plan → Plan → Plan
three options p q r = rose tt (union options) (more p (more q (more r no_roses)))

-- the number of rows of the files of these paths, under this alias if there is one, over a frame without number
abbrev pub fast_count : FileScan → List Name → Option Name → Plan
fast_count kind paths alias = rose tt (map_function (FastCount (Paths paths) kind alias)) (more (rose tt (frame_scan None [] None) no_roses) no_roses)
