use Rattle.plan_meaning.proofs.SharedRunLemmas.{shared_run}
use Rattle.plan_meaning.proofs.choice_laws.refining_plans_have_shared_runs.Goals as goal

pub returns : goal.returns
returns c = λ contents q p refines shared fit. shared_run contents q p refines shared fit
