-- Plans of which the rest of each operator is read again.
use Rattle.std.specs.List.{AllByRecursion}
use Rattle.plan_tree.specs.Rose.{Roses, rose, no_roses, more, items}
use Rattle.plan_ir.specs.Plans.{Op, Plan}
use Rattle.plan_meaning.specs.PlanAt.{one_plan}
use Rattle.plan_round_trip.proofs.Trees.{all_append, all_first, all_second}
use Rattle.plan_round_trip.proofs.ListedParts.{RestTold}

-- plans, and a plan
abbrev pub AreTold : Roses (Unit {0}) Op → Type 0
AreTold ts = AllByRecursion RestTold (items ts)

abbrev pub IsTold : Plan → Type 0
IsTold (rose n op ts) = RestTold op × AreTold ts

pub one_more : (p : Plan) (ts : Roses (Unit {0}) Op) → IsTold p → AreTold ts → AreTold (more p ts)
one_more (rose n op kids) ts p t = (p.0, all_append RestTold (items kids) (items ts) p.1 t)

pub first_told : (p : Plan) (ts : Roses (Unit {0}) Op) → AreTold (more p ts) → IsTold p
first_told (rose n op kids) ts a = (a.0, all_first RestTold (items kids) (items ts) a.1)

pub rest_told : (p : Plan) (ts : Roses (Unit {0}) Op) → AreTold (more p ts) → AreTold ts
rest_told (rose n op kids) ts a = all_second RestTold (items kids) (items ts) a.1

pub one_told : (ts : Roses (Unit {0}) Op) → AreTold ts → IsTold (one_plan ts)
one_told no_roses a = (tt, tt)
one_told (more p ts) a = first_told p ts a
