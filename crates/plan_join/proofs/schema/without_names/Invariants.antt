use Rattle.plan_join.proofs.ColumnLemmas.{Left}
use Rattle.plan_join.proofs.schema.without_names.Given as goal

-- what is there, and then what is left but for the names, are all columns but for the names
abbrev pub invariant-loop-name : goal.invariant-loop-name
invariant-loop-name l = Left l.names l.rest l.name-iterator l.columns
