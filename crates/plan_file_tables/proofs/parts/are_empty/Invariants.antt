use Rattle.plan_file_tables.specs.Parts.{AreEmpty}
use Rattle.plan_file_tables.proofs.parts.are_empty.Given as goal

-- no column has values, if none of those that are left has
abbrev pub invariant-loop-column : goal.invariant-loop-column
invariant-loop-column l = AreEmpty l.column-iterator → AreEmpty l.columns
