use Rattle.plan_fit.specs.Fitting.{HasColumns}
use Rattle.plan_fit.proofs.fitting.has_columns.Given as goal

-- the table has all columns, if it has those that are left, and else not
abbrev pub invariant-loop-name : goal.invariant-loop-name
invariant-loop-name l = (HasColumns l.columns l.table → HasColumns l.name-iterator l.table) × (HasColumns l.name-iterator l.table → HasColumns l.columns l.table)
