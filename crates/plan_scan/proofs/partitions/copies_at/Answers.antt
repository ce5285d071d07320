use Rattle.std.proofs.Common.{◌≡◌, ◌∙◌, ◌<◌, get_or, length, take_all, refl, ap, Some}
use Rattle.std.specs.List.{slice_get}
use Rattle.std.proofs.lemmas.Option.{slice_get_read, slice_get-get_or}
use Rattle.plan_scan.specs.Stats.{stats_at}
use Rattle.plan_scan.proofs.StatLemmas.{place-next}
use Rattle.plan_scan.proofs.partitions.copies_at.Goals as goal

pub loop-i-preserved : goal.loop-i-preserved
loop-i-preserved c =
    let ss = c.args.stats.now in
    let places = c.args.places.now in
    let i = get_or places c.loop-i.i-index 0 in
    let within : i < length ss = c.requires c.loop-i.i-index 0 c.loop-i-test.true in
    let here : slice_get ss i ≡ Some c.index-stats-i.result = slice_get_read ss _ i c.index-stats-i.result refl within c.index-stats-i.is in
    c.in_ok-push.ensures.pushed ∙ place-next ss places c.loop-i.i-index i c.loop-i.kept c.index-stats-i.result c.in_ok-try_clone.field-0 c.loop-i.invariant (slice_get-get_or places c.loop-i.i-index 0 c.loop-i-test.true) here c.in_ok-try_clone.ensures

pub returns : goal.returns
returns c = c.loop-i.invariant ∙ ap (stats_at c.args.stats.now) (take_all c.loop-i.i-index c.args.places.now c.loop-i-test.false)
