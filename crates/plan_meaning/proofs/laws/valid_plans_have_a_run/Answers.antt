use Rattle.plan_meaning.proofs.Runs.{valid_runs}
use Rattle.plan_meaning.proofs.laws.valid_plans_have_a_run.Goals as goal

pub returns : goal.returns
returns c = λ d p v fit. valid_runs d p v fit
