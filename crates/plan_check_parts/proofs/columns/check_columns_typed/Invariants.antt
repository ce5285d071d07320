use Rattle.plan_core.specs.declared.error.PolarsError.TheVariants.{SchemaMismatch}
use Rattle.plan_meaning.specs.Checks.{is_column}
use Rattle.plan_schema.proofs.CheckLemmas.{Left}
use Rattle.plan_check_parts.proofs.columns.check_columns_typed.Given as goal

abbrev pub invariant-loop-i : goal.invariant-loop-i
invariant-loop-i l = Left l.node SchemaMismatch 1 (is_column l.schema) l.columns l.i
