use Rattle.std.specs.List.{AllByRecursion}
use Rattle.plan_table.specs.Tables.{IsColumn}
use Rattle.plan_table.proofs.table.Table.is_formed.Given as goal

-- all columns have their values, if those that are left have theirs, and else not
abbrev pub invariant-loop-column : goal.invariant-loop-column
invariant-loop-column l =
    (AllByRecursion (IsColumn l.self.height) l.self.columns → AllByRecursion (IsColumn l.self.height) l.column-iterator)
    × (AllByRecursion (IsColumn l.self.height) l.column-iterator → AllByRecursion (IsColumn l.self.height) l.self.columns)
