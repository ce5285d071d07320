use Rattle.plan_top.proofs.Chaining.{shows_copy}
use Rattle.plan_top.proofs.steps.keep_step.Goals as goal

pub returns-clause-kept : goal.returns-clause-kept
returns-clause-kept c = (record { pass = c.args.pass; plan = c.in_ok-plan.plan; replaced = c.args.replaced }, c.in_ok-push.ensures.pushed, shows_copy c.args.lp.now c.args.ex.now c.args.root c.args.pass c.in_ok-plan.plan c.args.replaced c.in_ok-plan.ensures)
