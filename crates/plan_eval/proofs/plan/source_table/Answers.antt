use Rattle.std.proofs.Common.{[], length, option_map, subst}
use Rattle.plan_expr.specs.Exprs.{named_at}
use Rattle.plan_ir.specs.declared.ir.IR.{IR}
use Rattle.plan_ir.specs.Plans.{op_at}
use Rattle.plan_meaning.proofs.CheckParts.{scan_good}
use Rattle.plan_meaning.specs.Typing.{AllHold, checks}
use Rattle.plan_scan.specs.Sources.{sources_of}
use Rattle.plan_eval.proofs.plan.source_table.Goals as goal

pub scan-requires : goal.scan-requires
scan-requires c =
    let ex = c.requires.valid.0 in
    let scan = c.in-Scan in
    let valid = subst (λ (p : IR). AllHold (checks (op_at ex p) [])) scan.is c.requires.valid.1 in
    (scan_good (length (sources_of scan.sources)) (option_map (named_at ex) scan.predicate) scan.output_schema scan.file_info scan.hive_parts scan.file_options valid).differ
