use Rattle.plan_meaning.proofs.DistinctColumns.{valid_once}
use Rattle.plan_meaning.proofs.laws.valid_plans_have_distinct_names.Goals as goal

pub returns : goal.returns
returns c = valid_once
