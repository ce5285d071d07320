use Rattle.plan_reshape.proofs.Rounds.{rounds_share}
use Rattle.plan_reshape.proofs.stack.StackOptimizer.optimize_boxed.Goals as goal

pub returns-clause-shared : goal.returns-clause-shared
returns-clause-shared g c = λ o. rounds_share _ _ _ (c.in_ok-replaced.ensures.rounds o)
