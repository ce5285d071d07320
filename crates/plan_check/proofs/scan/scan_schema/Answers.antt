use Rattle.std.proofs.Common.{◌∙◌, length, option_map, sym}
use Rattle.plan_expr.specs.Exprs.{named_at}
use Rattle.plan_scan.specs.Sources.{sources_of}
use Rattle.plan_check.proofs.ScanLemmas.{stored_columns}
use Rattle.plan_check.proofs.scan.scan_schema.Goals as goal

pub returns : goal.returns
returns c = λ kind.
    let same = stored_columns c.args.node (length (sources_of c.args.sources.now)) (option_map (named_at c.args.ex.now) c.args.predicate.now) c.args.output.now c.args.info.now c.args.hive_parts.now c.args.options.now c.in_ok-check_scan.ensures in
    (c.in_ok-check_scan.ensures, sym (c.in_ok-output_columns.ensures ∙ same))
