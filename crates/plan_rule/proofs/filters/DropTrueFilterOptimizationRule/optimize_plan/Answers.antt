use Rattle.std.proofs.Common.{◌∙◌, sym}
use Rattle.plan_rule.proofs.Placed.{exprs_stand}
use Rattle.plan_rule.proofs.TrueFilters.{filter_goes, filter_stays}
use Rattle.plan_rule.proofs.filters.DropTrueFilterOptimizationRule.optimize_plan.Goals as goal

pub true_filter_input-requires : goal.true_filter_input-requires
true_filter_input-requires c = exprs_stand c.args.lp.now c.args.ex.now c.args.node c.get.result.now c.requires.plan c.get.ensures.entry

pub returns-in-None-clause-answers : goal.returns-in-None-clause-answers
returns-in-None-clause-answers c = λ t e h. filter_stays c.args.lp.now c.args.ex.now c.args.node c.get.result.now t e h c.get.ensures.entry (sym c.in-None.is ∙ c.true_filter_input.ensures)

pub returns-in-Some-clause-answers : goal.returns-in-Some-clause-answers
returns-in-Some-clause-answers c = λ t e h. rw c.take.ensures.after.2 (filter_goes c.args.lp.now c.args.ex.now c.args.node c.in-Some.input c.get.result.now c.take.result c.take.ensures.after.0 t e h c.requires.valid c.get.ensures.entry (sym c.in-Some.is ∙ c.true_filter_input.ensures) c.take.ensures.given)
