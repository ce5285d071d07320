-- A plan worked out: a filter and a projection over a scan of three columns.
use Rattle.std.proofs.Common.{◌≡◌, ℕ, pos, true, List, [], ◌∷◌, Option, Some, None, refl}
use Rattle.std.specs.Prelude.{codes}
use Rattle.plan_core.specs.declared.data_type.DataType.TheVariants as types
use Rattle.plan_core.specs.declared.options.FileScanOptions.{FileScanOptions}
use Rattle.plan_core.specs.Columns.{Columns}
use Rattle.plan_tree.specs.Rose.{rose, no_roses, more}
use Rattle.plan_expr.specs.declared.literal.LiteralValue.TheVariants as literals
use Rattle.plan_expr.specs.declared.operator.Operator.TheVariants.{Gt}
use Rattle.plan_expr.specs.declared.expr_ir.OutputName.TheVariants.{ColumnLhs}
use Rattle.plan_ir.specs.declared.scan.FileInfo.{FileInfo}
use Rattle.plan_scan.specs.declared.file_scan.FileScan.TheVariants.{Parquet}
use Rattle.plan_scan.specs.Sources.{sources_of}
use Rattle.plan_scan.specs.declared.sources.ScanSources.TheVariants.{Paths}
use Rattle.plan_expr.specs.Exprs.{ExprOp, column, literal, binary, Expr, Named}
use Rattle.plan_expr.specs.Leaves.{Name}
use Rattle.plan_ir.specs.Plans.{Op, filter, scan, simple_projection, Plan}
use Rattle.plan_frame.specs.Values.{Value, whole, text}
use Rattle.plan_frame.specs.Frames.{Frame, cut}
use Rattle.plan_file_scan.specs.FileFrames.{parts_of, scan_frame}
use Rattle.plan_meaning.specs.Contents.{Contents, path, frames_of}
use Rattle.plan_frame.specs.Rows.{filtered}
use Rattle.plan_meaning.specs.Steps.{May}
use Rattle.plan_meaning.specs.Relating.{names}
use Rattle.plan_meaning.specs.Asked.{sites_of}
use Rattle.plan_pruned.specs.Pruned.{pruned}

abbrev n : ℕ → Value
n i = whole (pos i)

abbrev columns_abc : Columns
columns_abc = (codes "a", types.Int64) ∷ (codes "b", types.Int64) ∷ (codes "c", types.String) ∷ []

abbrev pub columns_ab : Columns
columns_ab = (codes "a", types.Int64) ∷ (codes "b", types.Int64) ∷ []

abbrev pub columns_a : Columns
columns_a = (codes "a", types.Int64) ∷ []

abbrev table_t : Frame
table_t = record {
  height = 3;
  columns =
      record { name = codes "a"; values = n 1 ∷ n 2 ∷ n 3 ∷ [] }
      ∷ record { name = codes "b"; values = n 2 ∷ n 1 ∷ n 5 ∷ [] }
      ∷ record { name = codes "c"; values = text (codes "x") ∷ text (codes "y") ∷ text (codes "z") ∷ [] } ∷ [];
}

abbrev contents : Contents
contents = (path (codes "t"), table_t) ∷ []

abbrev info : FileInfo
info = record { schema = columns_abc; reader_schema = Some columns_abc }

abbrev pub leaf : ExprOp → Expr
leaf op = rose tt op no_roses

abbrev over_one : Expr
over_one = rose tt (binary Gt) (more (leaf (column (codes "b"))) (more (leaf (literal (literals.Int64 (pos 1)))) no_roses))

abbrev pub predicate : Named
predicate = record { name = ColumnLhs (codes "b"); expr = over_one }

abbrev pub node : Op → Plan → Plan
node op p = rose tt op (more p no_roses)

-- the options of a scan that reads these names, or all, and neither numbers its rows nor has their paths
abbrev pub reading : Option (List Name) → FileScanOptions → FileScanOptions
reading told options = record options { with_columns = told; row_index = None; include_file_paths = None }

abbrev pub scanned : Option Columns → Option (List Name) → FileScanOptions → Op
scanned output told options = scan (Paths (codes "t" ∷ [])) info None None output Parquet (reading told options)

abbrev plan : FileScanOptions → Plan
plan options = node (simple_projection columns_a) (node (filter predicate) (rose tt (scanned None None options) no_roses))

abbrev left : FileScanOptions → Plan
left options =
    node (simple_projection columns_a) (node (filter predicate) (node (simple_projection columns_ab) (rose tt (scanned (Some columns_ab) (Some (codes "a" ∷ codes "b" ∷ [])) options) no_roses)))

-- what is left of the plan
pub example_pruned : (options : FileScanOptions) → pruned true [] (plan options) ≡ left options
example_pruned options = refl

-- what the scan is asked
pub example_asked : (options : FileScanOptions) → sites_of (plan options) ≡ record { at_scan = scanned None None options; asked = names (codes "a" ∷ codes "b" ∷ []) } ∷ []
example_asked options = refl

-- the frame of the scan
abbrev whole_frame : FileScanOptions → Frame
whole_frame options = scan_frame (codes "a" ∷ codes "b" ∷ codes "c" ∷ []) (reading None options) (parts_of None (sources_of (Paths (codes "t" ∷ []))) (frames_of contents (Paths (codes "t" ∷ []))))

-- the frame of the plan
pub example_frame : (options : FileScanOptions) → cut (codes "a" ∷ []) (filtered over_one (whole_frame options)) ≡ record { height = 2; columns = record { name = codes "a"; values = n 1 ∷ n 3 ∷ [] } ∷ [] }
example_frame options = refl

-- the plan may give it
pub example_may : (options : FileScanOptions) → May contents (plan options) (record { height = 2; columns = record { name = codes "a"; values = n 1 ∷ n 3 ∷ [] } ∷ [] })
example_may options = (filtered over_one (whole_frame options) ∷ [], ((whole_frame options ∷ [], (([], tt, refl), tt), refl), tt), refl)
