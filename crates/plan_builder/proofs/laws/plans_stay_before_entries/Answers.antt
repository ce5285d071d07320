use Rattle.plan_builder.proofs.Joining.{built_stays}
use Rattle.plan_builder.proofs.laws.plans_stay_before_entries.Goals as goal

pub returns : goal.returns
returns c = built_stays
