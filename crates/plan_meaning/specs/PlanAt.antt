-- The plan that a number of an arena reaches, without numbers.
use Rattle.std.specs.Prelude.{List, [], ◌∷◌}
use Rattle.plan_core.specs.declared.arena.Node.{Node}
use Rattle.plan_tree.specs.Rose.{Roses, rose, no_roses, more}
use Rattle.plan_expr.specs.declared.aexpr.AExpr.{AExpr}
use Rattle.plan_ir.specs.declared.ir.IR.{IR}
use Rattle.plan_ir.specs.Plans.{Op, invalid, Plan, plans_at, bare}

-- the first of some plans; an invalid one where there is none
abbrev pub one_plan : Roses (Unit {0}) Op → Plan
one_plan no_roses = rose tt invalid no_roses
one_plan (more p ps) = p

-- the plan that a number reaches
abbrev pub plan_at : List IR → List AExpr → Node → Plan
plan_at lp ex n = one_plan (bare (plans_at lp ex (n ∷ [])))
