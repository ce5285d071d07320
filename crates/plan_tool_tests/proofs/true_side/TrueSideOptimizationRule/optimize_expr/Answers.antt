use Rattle.std.proofs.Common.{◌∙◌, sym}
use Rattle.plan_tool_tests.proofs.TrueSides.{answers_nothing, answers_true, listed_stands}
use Rattle.plan_tool_tests.proofs.true_side.TrueSideOptimizationRule.optimize_expr.Goals as goal

pub is_true_or-requires : goal.is_true_or-requires
is_true_or-requires c = listed_stands c.args.lp.now c.args.ex.now c.args.lp_node c.args.expr_node c.requires.listed

pub returns-then-not-filters_by-clause-answers : goal.returns-then-not-filters_by-clause-answers
returns-then-not-filters_by-clause-answers c = answers_nothing c.args.lp.now c.args.ex.now c.args.lp_node c.args.expr_node

pub returns-then-not-is_true_or-clause-answers : goal.returns-then-not-is_true_or-clause-answers
returns-then-not-is_true_or-clause-answers c = answers_nothing c.args.lp.now c.args.ex.now c.args.lp_node c.args.expr_node

pub returns-clause-answers : goal.returns-clause-answers
returns-clause-answers c = λ g s. answers_true c.args.lp.now c.args.ex.now c.args.lp_node c.args.expr_node c.get.result.now g c.requires.plan c.requires.valid c.get.ensures.entry (sym c.filters_by.ensures ∙ c.if-not-filters_by.false) s (sym c.is_true_or.ensures ∙ c.if-not-is_true_or.false)
