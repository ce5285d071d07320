-- What the plan at a number says of itself.
use Rattle.std.specs.Prelude.{List, [], ◌∷◌, Option}
use Rattle.plan_core.specs.declared.arena.Node.{Node}
use Rattle.plan_core.specs.Columns.{Columns}
use Rattle.plan_expr.specs.declared.aexpr.AExpr.{AExpr}
use Rattle.plan_ir.specs.declared.ir.IR.{IR}
use Rattle.plan_ir.specs.Plans.{bare, plans_at}
use Rattle.plan_expr.specs.Leaves.{Name}
use Rattle.plan_meaning.specs.Typing.{first_schema}
use Rattle.plan_meaning.specs.Counting.{stand_ins, first_stand_in}
use Rattle.plan_schema.specs.Stored.{stored_all}

-- the columns that the plan at a number says it has
abbrev pub columns_at : List IR → List AExpr → Node → Columns
columns_at lp ex n = first_schema (stored_all (bare (plans_at lp ex (n ∷ []))))

-- the column that stands in for the rows of the plan at a number, if there is one
abbrev pub stand_in_at : List IR → List AExpr → Node → Option Name
stand_in_at lp ex n = let ts = bare (plans_at lp ex (n ∷ [])) in first_stand_in (stand_ins ts (stored_all ts))
