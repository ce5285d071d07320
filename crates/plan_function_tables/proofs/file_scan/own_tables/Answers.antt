use Rattle.std.proofs.Common.{◌∙◌, ◌++◌, List, ap, sym}
use Rattle.plan_file_tables.specs.Parts.{frames_found}
use Rattle.plan_scan.specs.Source.{Source}
use Rattle.plan_scan.specs.Sources.{source_of}
use Rattle.plan_function_tables.proofs.ScanLemmas.{found-next, own_frames}
use Rattle.plan_function_tables.proofs.file_scan.own_tables.Goals as goal

pub loop-source-preserved : goal.loop-source-preserved
loop-source-preserved c =
    rw c.in_ok-push.ensures.pushed (
    found-next c.args.tables.now c.loop-source.found c.table_of.result (source_of c.in-Some.source) c.next.new.self c.table_of.ensures.found
    ∙ ap (λ (ss : List Source). frames_found c.loop-source.found ++ own_frames c.args.tables.now ss) (sym c.in-Some.ensures.steps)
    ∙ c.loop-source.invariant
    )
