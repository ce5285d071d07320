use Rattle.std.proofs.Common.{◌≡◌, ◌++◌}
use Rattle.plan_core.specs.Columns.{Columns, HasDistinctNames}
use Rattle.plan_options.proofs.schemas.append_all.Given as goal

-- what was added so far, and then what is left, is the schema
abbrev pub invariant-loop-name : goal.invariant-loop-name
invariant-loop-name l = record {
  added : (done : Columns) × (l.merged ≡ l.initial.merged ++ done) × (done ++ l.name-iterator ≡ l.schema);
  distinct : HasDistinctNames l.merged;
}
