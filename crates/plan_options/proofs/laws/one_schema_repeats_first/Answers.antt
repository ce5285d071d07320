use Rattle.plan_options.proofs.SchemaLemmas.{RepeatsFirst-one}
use Rattle.plan_options.proofs.laws.one_schema_repeats_first.Goals as goal

pub returns : goal.returns
returns c = RepeatsFirst-one
