use Rattle.std.proofs.Common.{◌≡◌}
use Rattle.plan_function_tables.specs.Explode.{borrowed_columns, longest, rows_by}
use Rattle.plan_function_tables.proofs.explode.exploded_rows.Given as goal

-- the rows that come of those up to here
abbrev pub invariant-loop-row : goal.invariant-loop-row
invariant-loop-row l = l.rows.items ≡ rows_by (longest (borrowed_columns l.lists)) l.row
