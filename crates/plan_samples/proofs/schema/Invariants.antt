use Rattle.std.proofs.Common.{◌≡◌, [], map, take}
use Rattle.plan_core.specs.Columns.{with_types}
use Rattle.plan_samples.proofs.schema.Given as goal

abbrev pub invariant-loop-column : goal.invariant-loop-column
invariant-loop-column l = l.schema ≡ with_types [] (map (λ c. (c.0.now, c.1)) (take l.column-index l.columns))
