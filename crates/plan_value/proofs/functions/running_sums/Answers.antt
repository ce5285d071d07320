use Rattle.std.proofs.Common.{◌∙◌, ap, rules}
use Rattle.std.specs.Int.{w64}
use Rattle.std.specs.Int.RustNames.{FitsSigned}
use Rattle.plan_value.proofs.AggregateLemmas.{sum-next, sums-next}
use Rattle.plan_value.proofs.ShownLemmas.{values-push}
use Rattle.plan_value.specs.Shown.{value_of, values_of}
use Rattle.plan_value.proofs.functions.running_sums.Goals as goal

pub loop-value-preserved : goal.loop-value-preserved
loop-value-preserved c =
    let fits : FitsSigned w64 c.number-sum.result = search rules in
    let sum = sum-next c.args.values.now c.loop-value.value-index c.loop-value.sum-bits c.value-item.result c.number-sum.result c.loop-value.auto.sum-fits.fits fits c.loop-value-test.true c.value-item.is c.number-sum.ensures c.loop-value.invariant.1 in (
      ap values_of c.in_ok-push.ensures.pushed
          ∙ values-push c.loop-value.sums c.sum_at.result
          ∙ sums-next c.args.values.now c.loop-value.value-index c.value-item.result (values_of c.loop-value.sums) (value_of c.sum_at.result) _ c.loop-value-test.true c.value-item.is c.loop-value.invariant.0 c.sum_at.ensures sum,
      sum,
    )
