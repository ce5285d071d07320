-- What becomes of the parts of a plan whose order nothing demands.
use Rattle.std.specs.Prelude.{◌≡◌, Bool, true, false}
use Rattle.plan_tree.specs.Rose.{Roses, rose, no_roses, more}
use Rattle.plan_ir.specs.Plans.{Op, Plan}
use Rattle.plan_order_laws.specs.Demands.{demands, is_idle}
use Rattle.plan_order_laws.specs.Reorders.{Reorders}

-- the plans that stand for the inputs of a node: the plan in its place, if the node was left out, else the inputs of that plan
abbrev pub stand_in : Bool → Plan → Roses (Unit {0}) Op
stand_in true q = more q no_roses
stand_in false (rose n op ts) = ts

-- a plan that became another, its order demanded or not: where it isn't, the other gives its frames with their rows in any order; and so it is with each of its inputs, by what the node demands of the last one
abbrev mutual
  pub Reordered : Bool → (new old : Plan) → Type 0
  Reordered d q (rose n op ts) = (d ≡ false → Reorders q (rose n op ts)) × AllReordered (demands d op) (stand_in (is_idle d op) q) ts

  -- plans that became others, the order of the last of them demanded or not
  pub AllReordered : Bool → (new old : Roses (Unit {0}) Op) → Type 0
  AllReordered d qs no_roses = qs ≡ no_roses
  AllReordered d no_roses (more p rest) = ⊥
  AllReordered d (more q qs) (more p no_roses) = Reordered d q p × (qs ≡ no_roses)
  AllReordered d (more q qs) (more p (more r rest)) = Reordered true q p × AllReordered d qs (more r rest)
