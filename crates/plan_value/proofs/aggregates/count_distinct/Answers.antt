use Rattle.std.proofs.Common.{◌∙◌, ap}
use Rattle.plan_value.specs.Shown.{values_of}
use Rattle.plan_value.proofs.AggregateLemmas.{with-seen, distinct-next}
use Rattle.plan_value.proofs.aggregates.count_distinct.Goals as goal

pub loop-value-preserved : goal.loop-value-preserved
loop-value-preserved c =
    ap values_of c.in_ok-insert.ensures.keys
    ∙ with-seen c.loop-value.seen.keys c.in_ok-try_clone.field-0
    ∙ distinct-next c.args.values.now c.loop-value.value-index c.value-item.result c.in_ok-try_clone.field-0 (values_of c.loop-value.seen.keys) c.loop-value-test.true c.value-item.is c.in_ok-try_clone.ensures c.loop-value.invariant
