-- Clustered plans.
use Rattle.std.specs.Prelude.{◌≡◌, false, Option, Some, None}
use Rattle.plan_tree.specs.Rose.{Roses, rose, no_roses, more}
use Rattle.plan_expr.specs.Exprs.{Named}
use Rattle.plan_frame.specs.ExprLists.{out_names}
use Rattle.plan_ir.specs.Plans.{Op, Plan}
use Rattle.plan_meaning.specs.Checks.{is_empty}
use Rattle.plan_collapse_laws.specs.Staying.{IsOne, Stays}
use Rattle.plan_collapse_laws.specs.Additions.{Addition, addition_of}

-- the addition that the first of some plans is, if it is one
abbrev pub addition_below : Roses (Unit {0}) Op → Option Addition
addition_below no_roses = None
addition_below (more (rose n op ts) rest) = addition_of op

-- an addition directly on another has an expression, and each of its expressions has to stay
abbrev pub Rests : Option Addition → Option Addition → Type 0
Rests (Some u) (Some l) = (is_empty u.exprs ≡ false) × ((e : Named) → IsOne e u.exprs → Stays u.exprs (out_names l.exprs) e)
Rests _ _ = Unit {0}

-- so does each addition of some plans
abbrev pub AllClustered : Roses (Unit {0}) Op → Type 0
AllClustered no_roses = Unit {0}
AllClustered (more (rose n op ts) rest) = Rests (addition_of op) (addition_below ts) × AllClustered ts × AllClustered rest

-- a plan is clustered: each addition directly on another rests there
abbrev pub IsClustered : Plan → Type 0
IsClustered p = AllClustered (more p no_roses)
