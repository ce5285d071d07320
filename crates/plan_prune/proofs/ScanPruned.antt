-- A scan is pruned at its number.
use Rattle.std.proofs.Common.{◌≡◌, Bool, true, false, List, [], ◌∷◌, Option, None, Some, refl, sym, subst}
use Rattle.std.specs.List.{slice_get, slice_set}
use Rattle.plan_core.specs.declared.arena.Node.{Node}
use Rattle.plan_core.specs.declared.options.FileScanOptions.{FileScanOptions}
use Rattle.plan_core.specs.Columns.{Columns}
use Rattle.plan_tree.specs.Stands.{Trees, StandsOnce}
use Rattle.plan_expr.specs.declared.aexpr.AExpr.{AExpr}
use Rattle.plan_expr.specs.declared.expr_ir.ExprIR.{ExprIR}
use Rattle.plan_expr.specs.Leaves.{Name}
use Rattle.plan_scan.specs.Stats.{Stats}
use Rattle.plan_scan.specs.declared.file_scan.FileScan.{FileScan}
use Rattle.plan_scan.specs.declared.sources.ScanSources.{ScanSources}
use Rattle.plan_ir.specs.declared.ir.IR.{IR}
use Rattle.plan_ir.specs.declared.ir.IR.TheVariants as nodes
use Rattle.plan_ir.specs.declared.scan.FileInfo.{FileInfo}
use Rattle.plan_ir.specs.Parts.{plan_shape}
use Rattle.plan_pruned.specs.Pruned.{asked_columns, scan_columns_left, typed_names}
use Rattle.plan_prune_parts.specs.Tops.{with_columns_on}
use Rattle.plan_prune_steps.specs.Scans.{kept_scan, left_node}
use Rattle.plan_prune.specs.Prunes.{Prunes}
use Rattle.plan_prune.specs.Taken.{top_columns}
use Rattle.plan_prune.proofs.PruneLemmas.{stays, goes_below}

-- without columns a node goes back to its number
pub plain_top : (top : Bool) (b : List IR) (n : Node) (q : IR) → with_columns_on (top_columns top None) b n q ≡ slice_set b n.0 q
plain_top true b n q = refl
plain_top false b n q = refl

-- a scan at a number is pruned
module _ (a b : List IR) (ex : List AExpr) (n : Node) (d : IR) (t : Trees IR) (h : StandsOnce plan_shape a (n ∷ []) t) (sources : ScanSources) (info : FileInfo) (hive : Option (List Stats)) (predicate : Option ExprIR) (output : Option Columns) (kind : FileScan) (options : FileScanOptions) (e : slice_get a n.0 ≡ Some (nodes.Scan sources info hive predicate output kind options)) (taken : b ≡ slice_set a n.0 d) where
  abbrev p : IR
  p = nodes.Scan sources info hive predicate output kind options

  pub scan_pruned : (top : Bool) (asked : List Name) → Prunes top asked a (with_columns_on (top_columns top (asked_columns asked (scan_columns_left asked info hive kind options))) b n (kept_scan asked sources info hive predicate output kind options)) ex ex n t
  scan_pruned top [] = subst (λ (c : List IR). Prunes top [] a c ex ex n t) (sym (plain_top top b n p)) (stays a b ex n p d t h refl e taken top [] p refl refl refl refl refl)
  scan_pruned true (x ∷ asked) =
      goes_below a b ex n p d t h refl e taken (x ∷ asked) (left_node (x ∷ asked) sources info hive predicate kind options) (typed_names (scan_columns_left (x ∷ asked) info hive kind options) (x ∷ asked)) refl refl refl refl refl
  scan_pruned false (x ∷ asked) = stays a b ex n p d t h refl e taken false (x ∷ asked) (left_node (x ∷ asked) sources info hive predicate kind options) refl refl refl refl refl
