use Rattle.plan_rule.proofs.UnionLoops.{taken_end, taken_next}
use Rattle.plan_rule.proofs.flatten.taken_up.Goals as goal

pub loop-input-preserved : goal.loop-input-preserved
loop-input-preserved c = rw c.in_ok-take_up.ensures (taken_next c.args.lp.now c.args.inputs.now c.loop-input.input-index (record { 0 = 0 }) c.get.result.now c.loop-input-test.true c.get.ensures.entry c.loop-input.taken c.loop-input.invariant)

pub returns : goal.returns
returns c = taken_end c.args.lp.now c.args.inputs.now c.loop-input.input-index c.loop-input.taken c.loop-input-test.false c.loop-input.invariant
