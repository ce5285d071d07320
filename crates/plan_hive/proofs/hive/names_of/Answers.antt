use Rattle.std.proofs.Common.{◌≡◌, ◌∙◌, ◌+◌, [], refl, sym, ap, Some}
use Rattle.std.specs.List.{slice_get}
use Rattle.std.proofs.lemmas.Option.{slice_get_read}
use Rattle.plan_core.specs.Names.{with_names}
use Rattle.plan_hive.specs.Parts.{part_names}
use Rattle.plan_scan.proofs.NameLemmas.{names-step}
use Rattle.plan_hive.proofs.PartNames.{name-at, names-take}
use Rattle.plan_hive.proofs.hive.names_of.Goals as goal

pub loop-name-preserved : goal.loop-name-preserved
loop-name-preserved c =
    let parts = c.args.parts.now in
    let i = c.loop-name.name-index in
    let here : slice_get parts i ≡ Some c.loop-name-item.result = slice_get_read parts _ i c.loop-name-item.result refl c.loop-name-test.true c.loop-name-item.is in
    c.in_ok-add.ensures.after
    ∙ names-step c.loop-name.names (part_names parts) i c.loop-name-item.result.0 c.as_str.result.now (c.loop-name.invariant ∙ ap (with_names []) (names-take parts i)) (name-at parts i c.loop-name-item.result here) c.as_str.ensures
    ∙ ap (with_names []) (sym (names-take parts (i + 1)))
