use Rattle.std.proofs.Common.{◌∙◌, sym}
use Rattle.plan_rule.proofs.Delaying.{delays_below, input_stands, ungrouped_stays}
use Rattle.plan_rule.proofs.rechunk.DelayRechunkOptimizationRule.optimize_plan.Goals as goal

pub delay-requires : goal.delay-requires
delay-requires c = input_stands c.args.lp.now c.args.ex.now c.args.node c.in-Some.input c.get.result.now c.requires.plan c.get.ensures.entry (sym c.in-Some.is ∙ c.grouped_input.ensures c.args.ex.now)

pub returns-in-None-clause-answers : goal.returns-in-None-clause-answers
returns-in-None-clause-answers c = λ t e h. ungrouped_stays c.args.lp.now c.args.ex.now c.args.node c.get.result.now t e h c.get.ensures.entry (sym c.in-None.is ∙ c.grouped_input.ensures c.args.ex.now)

pub returns-in_ok-delay-in-Some-clause-answers : goal.returns-in_ok-delay-in-Some-clause-answers
returns-in_ok-delay-in-Some-clause-answers c = λ t e h. delays_below c.args.lp.now c.delay.new.lp c.args.ex.now c.args.node c.in-Some.input c.get.result.now t e h c.get.ensures.entry (sym c.in-Some.is ∙ c.grouped_input.ensures c.args.ex.now) c.in_ok-delay-in-Some.ensures.delays
