use Rattle.std.proofs.Common.{◌∙◌, ◌++◌, List, ap, sym}
use Rattle.plan_file_scan.specs.FileFrames.{part_values}
use Rattle.plan_frame.specs.Values.{Value}
use Rattle.plan_file_tables.specs.Parts.{part_shown}
use Rattle.plan_file_tables.proofs.PartLemmas.{values-next}
use Rattle.plan_file_tables.proofs.scan.values_in_turn.Goals as goal

pub loop-part-preserved : goal.loop-part-preserved
loop-part-preserved c =
    c.in_ok-append_values.ensures
    ∙ ap (λ (vs : List Value). vs ++ part_values c.args.path.now (part_shown c.part-item.result) c.args.name.now) c.loop-part.invariant
    ∙ sym (values-next c.args.parts.now c.loop-part.part-index c.part-item.result c.loop-part-test.true c.part-item.is c.args.path.now c.args.name.now)
