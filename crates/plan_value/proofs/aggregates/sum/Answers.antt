use Rattle.std.proofs.Common.{rules}
use Rattle.std.specs.Int.{w64}
use Rattle.std.specs.Int.RustNames.{FitsSigned}
use Rattle.plan_value.proofs.AggregateLemmas.{sum-next}
use Rattle.plan_value.proofs.aggregates.sum.Goals as goal

pub loop-value-preserved : goal.loop-value-preserved
loop-value-preserved c =
    let fits : FitsSigned w64 c.number-sum.result = search rules in
    sum-next c.args.values.now c.loop-value.value-index c.loop-value.sum-bits c.value-item.result c.number-sum.result c.loop-value.auto.sum-fits.fits fits c.loop-value-test.true c.value-item.is c.number-sum.ensures c.loop-value.invariant
