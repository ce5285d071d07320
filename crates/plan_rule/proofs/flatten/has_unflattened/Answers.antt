use Rattle.std.proofs.Common.{◌∙◌, sym}
use Rattle.plan_rule.proofs.UnionLoops.{some_end, some_here, some_later}
use Rattle.plan_rule.proofs.flatten.has_unflattened.Goals as goal

pub returns-then-is_unflattened : goal.returns-then-is_unflattened
returns-then-is_unflattened c = some_here c.args.lp.now c.args.inputs.now c.loop-input.input-index (record { 0 = 0 }) c.get.result.now c.loop-input-test.true c.get.ensures.entry (sym c.is_unflattened.ensures ∙ c.if-is_unflattened.true) c.loop-input.invariant

pub loop-input-preserved : goal.loop-input-preserved
loop-input-preserved c = some_later c.args.lp.now c.args.inputs.now c.loop-input.input-index (record { 0 = 0 }) c.get.result.now c.loop-input-test.true c.get.ensures.entry (sym c.is_unflattened.ensures ∙ c.if-is_unflattened.false) c.loop-input.invariant

pub returns : goal.returns
returns c = some_end c.args.lp.now c.args.inputs.now c.loop-input.input-index c.loop-input-test.false c.loop-input.invariant
