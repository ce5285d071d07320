use Rattle.std.proofs.Common.{◌∙◌, ap, sym, Some, Option}
use Rattle.std.specs.Prelude.{option_map}
use Rattle.plan_expr.specs.Leaves.{Name}
use Rattle.plan_ir.specs.declared.functions.FunctionIR.TheVariants.{FastCount}
use Rattle.plan_scan.specs.declared.file_scan.FileScan.{FileScan}
use Rattle.plan_scan.specs.declared.sources.ScanSources.{ScanSources}
use Rattle.plan_order_laws.specs.Counted.{alias_of}
use Rattle.plan_order.proofs.count_star.count_over.Goals as goal

pub returns-in-Some : goal.returns-in-Some
returns-in-Some c = λ ex.
    ap (λ (a : Option Name). Some (FastCount c.in-Some.sources c.in-Some.scan_type a)) c.in_ok-alias.ensures
    ∙ ap (option_map (λ (x : ScanSources × FileScan). FastCount x.0 x.1 (alias_of c.args.expr.now.output_name))) (sym c.in-Some.is ∙ c.in_ok-sources.ensures ex)

pub returns-in-None : goal.returns-in-None
returns-in-None c = λ ex. ap (option_map (λ (x : ScanSources × FileScan). FastCount x.0 x.1 (alias_of c.args.expr.now.output_name))) (sym c.in-None.is ∙ c.in_ok-sources.ensures ex)
