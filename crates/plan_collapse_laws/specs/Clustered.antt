-- The plan that clustering makes.
use Rattle.std.specs.Prelude.{◌++◌, List, [], ◌∷◌, Option, Some, None}
use Rattle.plan_tree.specs.Rose.{Roses, rose, no_roses, more}
use Rattle.plan_ir.specs.Plans.{Op, Plan}
use Rattle.plan_collapse_laws.specs.Additions.{Addition, addition_of}
use Rattle.plan_collapse_laws.specs.Runs.{adds, linked, rested, Link}

-- what becomes of a node: an addition begins a run, another node stands over its clustered inputs
abbrev pub at_node : Option Addition → Op → Roses (Unit {0}) Op → (Addition → Plan) → Plan
at_node None op inputs into = rose tt op inputs
at_node (Some u) op inputs into = into u

-- a run over a node and the plans beside it: an addition that is its only input belongs to it; over any other it is brought to rest, and what is below is clustered
abbrev pub over_node : List Link → Option Addition → Op → Roses (Unit {0}) Op → (List Link → Plan) → Roses (Unit {0}) Op → Plan
over_node run None op inputs into rest = linked (rested run) (more (rose tt op inputs) rest)
over_node run (Some l) op inputs into no_roses = into (run ++ adds l ∷ [])
over_node run (Some l) op inputs into (more p ps) = linked (rested run) (more (into (adds l ∷ [])) (more p ps))

-- a clustered plan: each of its runs of additions is brought to rest by itself
abbrev mutual
  pub clustered : Plan → Plan
  clustered (rose n op ts) = at_node (addition_of op) op (clustered_all ts) (λ u. run_over ts (adds u ∷ []))

  pub clustered_all : Roses (Unit {0}) Op → Roses (Unit {0}) Op
  clustered_all no_roses = no_roses
  clustered_all (more p rest) = more (clustered p) (clustered_all rest)

  -- a run over these plans, of which a single one may go on with it
  pub run_over : Roses (Unit {0}) Op → List Link → Plan
  run_over no_roses run = linked (rested run) no_roses
  run_over (more (rose n op ts) rest) run = over_node run (addition_of op) op (clustered_all ts) (λ r. run_over ts r) (clustered_all rest)
