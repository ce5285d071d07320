use Rattle.plan_core.specs.declared.error.PolarsError.TheVariants.{SchemaMismatch}
use Rattle.plan_core.specs.Columns.{same_columns}
use Rattle.plan_meaning.specs.Typing.{first_schema}
use Rattle.plan_schema.proofs.CheckLemmas.{Left}
use Rattle.plan_check.proofs.union.check_same.Given as goal

abbrev pub invariant-loop-i : goal.invariant-loop-i
invariant-loop-i l = Left l.node SchemaMismatch 1 (same_columns (first_schema l.schemas)) l.schemas l.i
