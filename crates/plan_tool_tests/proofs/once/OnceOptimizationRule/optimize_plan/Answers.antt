use Rattle.plan_pass_laws.specs.declared.kind.RuleKind.TheVariants.{TrueFilter}
use Rattle.plan_tool_tests.proofs.Others.{as_other, nothing}
use Rattle.plan_tool_tests.proofs.once.OnceOptimizationRule.optimize_plan.Goals as goal

pub returns-then-self-clause-answers : goal.returns-then-self-clause-answers
returns-then-self-clause-answers c = nothing c.args.lp.now c.args.ex.now c.args.node

pub returns-clause-answers : goal.returns-clause-answers
returns-clause-answers c = λ t e h. as_other TrueFilter c.args.lp.now c.optimize_plan.new.lp c.args.ex.now c.optimize_plan.new.ex c.args.node t e c.in_ok-answer.answer (c.in_ok-answer.ensures.answers t e h)
