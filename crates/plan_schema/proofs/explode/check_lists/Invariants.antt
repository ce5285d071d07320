use Rattle.plan_core.specs.declared.error.PolarsError.TheVariants.{SchemaMismatch}
use Rattle.plan_core.specs.Columns.{type_of}
use Rattle.plan_meaning.specs.Typing.{is_list_type}
use Rattle.plan_schema.proofs.CheckLemmas.{Left}
use Rattle.plan_schema.proofs.explode.check_lists.Given as goal

abbrev pub invariant-loop-i : goal.invariant-loop-i
invariant-loop-i l = Left l.node SchemaMismatch 1 (λ a. is_list_type (type_of l.schema a)) l.names l.i
