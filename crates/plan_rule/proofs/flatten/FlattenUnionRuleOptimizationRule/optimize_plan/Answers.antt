use Rattle.std.proofs.Common.{◌∙◌, Some, ap, sym}
use Rattle.plan_rule.proofs.Flattening.{no_union_stays, union_flattens, union_inside, union_stays}
use Rattle.plan_rule.proofs.flatten.FlattenUnionRuleOptimizationRule.optimize_plan.Goals as goal

pub has_unflattened-requires : goal.has_unflattened-requires
has_unflattened-requires c = rw c.as_slice-inputs.ensures (union_inside c.args.lp.now c.args.ex.now c.args.node c.in-Union.inputs c.in-Union.options c.requires.plan (c.get.ensures.entry ∙ ap Some c.in-Union.is))

pub taken_up-requires : goal.taken_up-requires
taken_up-requires c = rw c.as_slice-inputs.ensures (union_inside c.args.lp.now c.args.ex.now c.args.node c.in-Union.inputs c.in-Union.options c.requires.plan (c.get.ensures.entry ∙ ap Some c.in-Union.is))

pub returns-then-not-has_unflattened-clause-answers : goal.returns-then-not-has_unflattened-clause-answers
returns-then-not-has_unflattened-clause-answers c = λ t e h. union_stays c.args.lp.now c.args.ex.now c.args.node c.in-Union.inputs c.in-Union.options t e h (c.get.ensures.entry ∙ ap Some c.in-Union.is) (rw c.as_slice-inputs.ensures at (sym c.has_unflattened.ensures ∙ c.if-not-has_unflattened.true))

pub returns-in_ok-taken-in-Union-clause-answers : goal.returns-in_ok-taken-in-Union-clause-answers
returns-in_ok-taken-in-Union-clause-answers c = λ t e h. rw c.flattened.ensures (union_flattens c.args.lp.now c.args.ex.now c.args.node c.in-Union.inputs c.in_ok-taken-in-Union.taken c.in-Union.options t e h c.requires.valid (c.get.ensures.entry ∙ ap Some c.in-Union.is) (rw c.as_slice-inputs.ensures at (sym c.has_unflattened.ensures ∙ c.if-not-has_unflattened.false)) (rw c.as_slice-inputs.ensures at c.in_ok-taken-in-Union.ensures))

pub returns-in_default-clause-answers : goal.returns-in_default-clause-answers
returns-in_default-clause-answers c = λ t e h. no_union_stays c.args.lp.now c.args.ex.now c.args.node c.get.result.now t e h c.get.ensures.entry c.in_default.not-Union
