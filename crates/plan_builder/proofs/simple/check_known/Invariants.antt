use Rattle.plan_core.specs.declared.error.PolarsError.TheVariants.{SchemaFieldNotFound}
use Rattle.plan_meaning.specs.Checks.{is_known}
use Rattle.plan_builder.proofs.Faults.{Left}
use Rattle.plan_builder.proofs.simple.check_known.Given as goal

abbrev pub invariant-loop-i : goal.invariant-loop-i
invariant-loop-i l = Left SchemaFieldNotFound (is_known l.schema) l.names l.i
