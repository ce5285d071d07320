use Rattle.std.proofs.Common.{◌≡◌, ◌∙◌, refl, Some}
use Rattle.std.specs.List.{slice_get}
use Rattle.std.proofs.lemmas.Option.{slice_get_read}
use Rattle.plan_scan.proofs.NameLemmas.{names-all, names-step}
use Rattle.plan_scan.proofs.partitions.once.Goals as goal

pub loop-name-preserved : goal.loop-name-preserved
loop-name-preserved c =
    let names = c.args.names.now in
    let here : slice_get names c.loop-name.name-index ≡ Some c.name-item.result = slice_get_read names _ c.loop-name.name-index c.name-item.result refl c.loop-name-test.true c.name-item.is in
    c.in_ok-add.ensures.after ∙ names-step c.loop-name.kept names c.loop-name.name-index c.name-item.result c.as_str.result.now c.loop-name.invariant here c.as_str.ensures

pub returns : goal.returns
returns c = names-all c.loop-name.kept c.args.names.now c.loop-name.name-index c.loop-name.invariant c.loop-name-test.false
