-- What evaluated values are: the values of expressions.
use Rattle.std.specs.Prelude.{List, map}
use Rattle.plan_core.specs.declared.arena.Node.{Node}
use Rattle.plan_expr.specs.Exprs.{exprs_at}
use Rattle.plan_expr.specs.declared.aexpr.AExpr.{AExpr}
use Rattle.plan_frame.specs.Meaning.{Cell, one, many, cells, vals}
use Rattle.plan_frame.specs.Frames.{Frame}
use Rattle.plan_value.specs.declared.exprs.Values.{Values}
use Rattle.plan_value.specs.declared.exprs.Values.TheVariants as values
use Rattle.plan_value.specs.Shown.{value_of, values_of}

-- what evaluated values are: one, or one for each row
abbrev pub cell_of : Values → Cell
cell_of (values.One v) = one (value_of v)
cell_of (values.Many vs) = many (values_of vs)

-- what evaluated values are, in order
abbrev pub cells_of : List Values → List Cell
cells_of vs = map cell_of vs

-- what expressions are over a frame, in order
abbrev pub cells_at : List AExpr → List Node → Frame → List Cell
cells_at ex nodes f = cells (vals (exprs_at ex nodes)) f
