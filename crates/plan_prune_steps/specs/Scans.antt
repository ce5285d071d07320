-- The step of a scan of files.
use Rattle.std.specs.Prelude.{List, [], ◌∷◌, Option, Some}
use Rattle.plan_core.specs.Columns.{Columns}
use Rattle.plan_core.specs.declared.options.FileScanOptions.{FileScanOptions}
use Rattle.plan_expr.specs.Leaves.{Name}
use Rattle.plan_expr.specs.declared.expr_ir.ExprIR.{ExprIR}
use Rattle.plan_scan.specs.Stats.{Stats}
use Rattle.plan_scan.specs.declared.file_scan.FileScan.{FileScan}
use Rattle.plan_scan.specs.declared.sources.ScanSources.{ScanSources}
use Rattle.plan_file_scan.specs.Left.{in_file_order, left_options, left_output, left_parts}
use Rattle.plan_ir.specs.declared.ir.IR.{IR}
use Rattle.plan_ir.specs.declared.ir.IR.TheVariants.{Scan}
use Rattle.plan_ir.specs.declared.scan.FileInfo.{FileInfo}
use Rattle.plan_pruned.specs.Pruned.{asked_columns, reads_left, scan_columns_left}
use Rattle.plan_prune_parts.specs.declared.step.Step.{Step}
use Rattle.plan_prune_parts.specs.declared.step.Step.TheVariants.{Leaf}

-- what is left of a scan that is asked these names
abbrev pub left_node : List Name → ScanSources → FileInfo → Option (List Stats) → Option ExprIR → FileScan → FileScanOptions → IR
left_node wanted sources info hive predicate kind options =
    let file = scan_columns_left wanted info hive kind options in
    Scan sources (record info { schema = file }) (left_parts wanted hive) predicate
    (Some (left_output (in_file_order kind hive options) options.include_file_paths wanted file)) kind (left_options wanted (reads_left wanted info hive kind options) options)

-- the scan that goes back where names are asked: what is left of it; asked nothing, it stays
abbrev pub kept_scan : List Name → ScanSources → FileInfo → Option (List Stats) → Option ExprIR → Option Columns → FileScan → FileScanOptions → IR
kept_scan [] sources info hive predicate output kind options = Scan sources info hive predicate output kind options
kept_scan (a ∷ asked) sources info hive predicate output kind options = left_node (a ∷ asked) sources info hive predicate kind options

-- the step of a scan that is asked names: it goes back, under a projection to these names where projections go on top
abbrev pub scan_step : List Name → ScanSources → FileInfo → Option (List Stats) → Option ExprIR → Option Columns → FileScan → FileScanOptions → Step
scan_step asked sources info hive predicate output kind options =
    Leaf (asked_columns asked (scan_columns_left asked info hive kind options)) (kept_scan asked sources info hive predicate output kind options)
