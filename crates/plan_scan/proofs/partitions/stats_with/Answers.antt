use Rattle.std.proofs.Common.{◌≡◌, ◌∙◌, refl, Some}
use Rattle.std.specs.List.{slice_get}
use Rattle.std.proofs.lemmas.Option.{slice_get_read}
use Rattle.plan_scan.proofs.StatLemmas.{has-column, new-all, new-next}
use Rattle.plan_scan.proofs.partitions.stats_with.Goals.{in-Some+in_ok-stat_of+in_ok-push, in_default}
use Rattle.plan_scan.proofs.partitions.stats_with.Goals as goal

pub loop-i-preserved : goal.loop-i-preserved
loop-i-preserved c =
    let vs = c.args.values.now in
    let here : slice_get vs c.loop-i.i ≡ Some c.index-values-i.result = slice_get_read vs _ c.loop-i.i c.index-values-i.result refl c.loop-i-test.true c.index-values-i.is in
    elim c.match-get_at_index.branch [
      | in-Some+in_ok-stat_of+in_ok-push w ↦ w.stats-is ∙ w.in_ok-push.ensures.pushed ∙ new-next c.args.schema.now vs c.loop-i.i c.loop-i.stats (w.in-Some.name.now, w.in-Some.dtype.now) c.index-values-i.result w.in_ok-stat_of.field-0 c.loop-i.invariant w.in-Some.ensures.found here w.in_ok-stat_of.ensures
      | in_default w ↦ absurd (has-column c.args.schema.now vs c.loop-i.i c.index-values-i.result c.requires here w.in_default.ensures.none)
    ]

pub returns : goal.returns
returns c = new-all c.args.schema.now c.args.values.now c.loop-i.i c.loop-i.stats c.requires c.loop-i.invariant c.loop-i-test.false
