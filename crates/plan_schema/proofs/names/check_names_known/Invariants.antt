use Rattle.plan_core.specs.declared.error.PolarsError.TheVariants.{SchemaFieldNotFound}
use Rattle.plan_meaning.specs.Checks.{is_known}
use Rattle.plan_schema.proofs.CheckLemmas.{Left}
use Rattle.plan_schema.proofs.names.check_names_known.Given as goal

abbrev pub invariant-loop-i : goal.invariant-loop-i
invariant-loop-i l = Left l.node SchemaFieldNotFound l.place (is_known l.schema) l.names l.i
