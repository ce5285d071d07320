use Rattle.plan_core.specs.declared.error.PolarsError.TheVariants.{SchemaMismatch}
use Rattle.plan_meaning.specs.Checks.{is_column}
use Rattle.plan_schema.proofs.CheckLemmas.{Left}
use Rattle.plan_schema.proofs.names.check_names_typed.Given as goal

abbrev pub invariant-loop-i : goal.invariant-loop-i
invariant-loop-i l = Left l.node SchemaMismatch 1 (λ a. is_column l.schema (a, l.dtype)) l.names l.i
