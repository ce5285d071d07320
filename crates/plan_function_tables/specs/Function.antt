-- The columns of a table under other names.
use Rattle.plan_table.specs.declared.column.Column.{Column}
use Rattle.plan_expr.specs.Leaves.{Name}

-- a column under the name that its own becomes
abbrev pub under : (Name → Name) → Column → Column
under now c = record { name = now c.name; dtype = c.dtype; values = c.values }
