use Rattle.std.proofs.Common.{◌≡◌, ◌++◌}
use Rattle.plan_function_tables.specs.Explode.{row_places}
use Rattle.plan_function_tables.proofs.explode.append_places.Given as goal

-- the row with the places up to here stands behind
abbrev pub invariant-loop-place : goal.invariant-loop-place
invariant-loop-place l = l.rows.items ≡ l.initial.rows.items ++ row_places l.row l.place
