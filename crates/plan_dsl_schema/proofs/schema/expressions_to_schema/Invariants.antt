use Rattle.plan_dsl_schema.proofs.SchemaLemmas.{IsPassed}
use Rattle.plan_dsl_schema.proofs.schema.expressions_to_schema.Given as goal

abbrev pub invariant-loop-place : goal.invariant-loop-place
invariant-loop-place l = IsPassed l.context l.schema l.exprs l.place l.made l.repeated
