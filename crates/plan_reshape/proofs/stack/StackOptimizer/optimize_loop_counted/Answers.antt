use Rattle.std.proofs.Common.{arith, ◌≡◌, ◌+◌, ◌≤◌, ◌∙◌, ap, append-nil, map}
use Rattle.plan_meaning.specs.PlanAt.{plan_at}
use Rattle.plan_pass_laws.proofs.ClearedPlans.{cleared_weight}
use Rattle.plan_reshape.specs.Walking.{all_own}
use Rattle.plan_reshape.proofs.Rounds.{rounds_share}
use Rattle.plan_reshape.proofs.stack.StackOptimizer.optimize_loop_counted.Goals as goal

pub returns-clause-settles : goal.returns-clause-settles
returns-clause-settles g c = rw (append-nil (map g.R.OptimizationRule.kind_of c.args.rules.now)) at c.in_ok-replaced.ensures.settles

pub returns-clause-none : goal.returns-clause-none
returns-clause-none g c = λ h.
    let same = cleared_weight (plan_at c.repeat.new.lp c.repeat.new.ex c.args.lp_top) (plan_at c.args.lp.now c.args.ex.now c.args.lp_top) h in
    let counted = c.in_ok-replaced.ensures.settles.counted in
    omega (arith, same, counted)

pub returns-clause-rounds : goal.returns-clause-rounds
returns-clause-rounds g c = λ o. rw (append-nil (map g.R.OptimizationRule.kind_of c.args.rules.now)) at (c.in_ok-replaced.ensures.rounds (ap all_own (append-nil (map g.R.OptimizationRule.is_own c.args.rules.now)) ∙ o))

pub returns-clause-shared : goal.returns-clause-shared
returns-clause-shared g c = λ o. rounds_share _ _ _ (returns-clause-rounds g c o)
