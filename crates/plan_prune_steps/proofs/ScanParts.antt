-- What is left of a scan is the step of the scan.
use Rattle.std.proofs.Common.{◌≡◌, ◌<◌, ◌∙◌, List, [], ◌∷◌, length, Option, Some, refl, ap, arith}
use Rattle.plan_core.specs.Columns.{Columns}
use Rattle.plan_core.specs.declared.options.FileScanOptions.{FileScanOptions}
use Rattle.plan_expr.specs.Leaves.{Name}
use Rattle.plan_expr.specs.declared.aexpr.AExpr.{AExpr}
use Rattle.plan_expr.specs.declared.expr_ir.ExprIR.{ExprIR}
use Rattle.plan_scan.specs.Stats.{Stats}
use Rattle.plan_scan.specs.declared.file_scan.FileScan.{FileScan}
use Rattle.plan_scan.specs.declared.sources.ScanSources.{ScanSources}
use Rattle.plan_file_scan.specs.Left.{in_file_order, left_options, left_output, left_parts}
use Rattle.plan_ir.specs.declared.ir.IR.{IR}
use Rattle.plan_ir.specs.declared.ir.IR.TheVariants.{Scan}
use Rattle.plan_ir.specs.declared.scan.FileInfo.{FileInfo}
use Rattle.plan_pruned.specs.Pruned.{reads_left, scan_columns_left, typed_names}
use Rattle.plan_prune_parts.specs.declared.step.Step.TheVariants.{Leaf}
use Rattle.plan_prune_steps.specs.Steps.{step_of}

module _ (lp : List IR) (ex : List AExpr) (sources : ScanSources) (info : FileInfo) (hive : Option (List Stats)) (predicate : Option ExprIR) (output : Option Columns) (kind : FileScan) (options : FileScanOptions) where
  pub scan_left : (asked : List Name) (columns file out : Columns) (parts : Option (List Stats)) (left : FileScanOptions) → 0 < length asked → columns ≡ typed_names file asked → file ≡ scan_columns_left asked info hive kind options → parts ≡ left_parts asked hive → out ≡ left_output (in_file_order kind hive options) options.include_file_paths asked (scan_columns_left asked info hive kind options) → left ≡ left_options asked (reads_left asked info hive kind options) options → Leaf (Some columns) (Scan sources (record { schema = file; reader_schema = info.reader_schema }) parts predicate (Some out) kind left) ≡ step_of lp ex asked (Scan sources info hive predicate output kind options)
  scan_left [] columns file out parts left some named made kept puts told = absurd (omega (arith, some))
  scan_left (a ∷ asked) columns file out parts left some named made kept puts told =
      let both : columns ≡ typed_names (scan_columns_left (a ∷ asked) info hive kind options) (a ∷ asked) = named ∙ ap (λ (cs : Columns). typed_names cs (a ∷ asked)) made in
      rw (both, made, kept, puts, told) refl
