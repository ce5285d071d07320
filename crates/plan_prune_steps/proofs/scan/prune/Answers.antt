use Rattle.std.proofs.Common.{◌≡◌, ◌∙◌, ap, sym, List, Option}
use Rattle.std.proofs.lemmas.Result.{IfOk-at_ok, IfOk-weaker}
use Rattle.plan_core.specs.Columns.{Columns}
use Rattle.plan_core.specs.declared.options.FileScanOptions.{FileScanOptions}
use Rattle.plan_expr.specs.Leaves.{Name}
use Rattle.plan_file_scan.specs.Left.{in_file_order, left_options, left_output, left_parts}
use Rattle.plan_file_tables.specs.declared.left.LeftScan.{LeftScan}
use Rattle.plan_ir.specs.declared.scan.FileInfo.{FileInfo}
use Rattle.plan_pruned.specs.Pruned.{reads_left, scan_columns_left, typed_names}
use Rattle.plan_scan.specs.Stats.{Stats}
use Rattle.plan_scan.specs.declared.file_scan.FileScan.{FileScan}
use Rattle.plan_prune_steps.specs.Steps.{step_of}
use Rattle.plan_prune_steps.proofs.ScanParts.{scan_left}
use Rattle.plan_prune_steps.proofs.scan.prune.Goals as goal

pub returns : goal.returns
returns c =
    let asked : List Name = c.args.asked.now in
    let info : FileInfo = c.in-Scan.file_info in
    let hive : Option (List Stats) = c.in-Scan.hive_parts in
    let kind : FileScan = c.in-Scan.scan_type in
    let options : FileScanOptions = c.in-Scan.file_options in
    IfOk-weaker c.step_left.result _ _
    (λ step made lp ex.
    made.2
    ∙ scan_left lp ex c.in-Scan.sources info hive c.in-Scan.predicate c.in-Scan.output_schema kind options asked made.0.1 made.0.0.columns made.0.0.output made.0.0.hive_parts made.0.0.options
    c.requires.asked
    (IfOk-at_ok (λ (l : LeftScan × Columns). l.1 ≡ typed_names l.0.columns asked) made.1 c.left_and_asked-left.ensures.asked)
    (IfOk-at_ok (λ (l : LeftScan × Columns). l.0.columns ≡ scan_columns_left asked info hive kind options) made.1 c.left_and_asked-left.ensures.columns)
    (IfOk-at_ok (λ (l : LeftScan × Columns). l.0.hive_parts ≡ left_parts asked hive) made.1 c.left_and_asked-left.ensures.hive_parts)
    (IfOk-at_ok (λ (l : LeftScan × Columns). l.0.output ≡ left_output (in_file_order kind hive options) options.include_file_paths asked (scan_columns_left asked info hive kind options)) made.1 c.left_and_asked-left.ensures.output)
    (IfOk-at_ok (λ (l : LeftScan × Columns). l.0.options ≡ left_options asked (reads_left asked info hive kind options) options) made.1 c.left_and_asked-left.ensures.options)
    ∙ ap (step_of lp ex asked) (sym c.in-Scan.is))
    c.step_left.ensures
