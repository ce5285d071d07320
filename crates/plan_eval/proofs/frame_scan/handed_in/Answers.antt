use Rattle.std.proofs.Common.{◌∙◌, ap, sym}
use Rattle.plan_meaning.specs.Contents.{handed_in}
use Rattle.plan_table.specs.declared.source_key.SourceKey.TheVariants.{Frame as frame_key}
use Rattle.plan_fit.specs.Sources.{contents_of}
use Rattle.plan_function_tables.proofs.ScanLemmas.{found-at}
use Rattle.plan_eval.proofs.frame_scan.handed_in.Goals as goal

pub returns-in-Some : goal.returns-in-Some
returns-in-Some c =
    found-at c.args.tables.now (frame_key c.in-Some.number) c.get.result c.get.ensures.found
    ∙ ap (handed_in (contents_of c.args.tables.now)) (sym c.in-Some.is)
