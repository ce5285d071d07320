use Rattle.std.proofs.Common.{◌≡◌, take}
use Rattle.plan_function_tables.specs.Explode.{borrowed_columns, longest}
use Rattle.plan_function_tables.proofs.explode.longest.Given as goal

-- the longest list of the columns up to here
abbrev pub invariant-loop-column : goal.invariant-loop-column
invariant-loop-column l = l.most ≡ longest (borrowed_columns (take l.column-index l.lists)) l.row
