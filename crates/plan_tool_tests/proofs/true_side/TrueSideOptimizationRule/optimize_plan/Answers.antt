use Rattle.plan_tool_tests.proofs.Others.{nothing}
use Rattle.plan_tool_tests.proofs.true_side.TrueSideOptimizationRule.optimize_plan.Goals as goal

pub returns-clause-answers : goal.returns-clause-answers
returns-clause-answers c = nothing c.args.lp.now c.args.ex.now c.args.node
