use Rattle.std.proofs.lemmas.Result.{IfOk-weaker}
use Rattle.plan_prune_steps.proofs.step.prepare_exprs.Goals as goal

pub returns-in-Sort : goal.returns-in-Sort
returns-in-Sort c = IfOk-weaker c.prepare-in-Sort.result _ _ (λ step same. same c.args.lp.now) c.prepare-in-Sort.ensures
