-- The marks by which the inputs of joins and unions may run side by side.
use Rattle.std.specs.Prelude.{Bool, false, not, ◌&&◌, ◌||◌, List, [], ◌∷◌, ◌++◌, map}
use Rattle.plan_tree.specs.Rose.{Roses, rose, no_roses, more}
use Rattle.plan_ir.specs.Plans.{Op, join, union, Plan}
use Rattle.plan_meaning.specs.Counting.{is_closed}

-- a cache stands among plans, or below them
abbrev pub hold_cache : Roses (Unit {0}) Op → Bool
hold_cache no_roses = false
hold_cache (more (rose n op ts) rest) = is_closed op || (hold_cache ts || hold_cache rest)

-- a join or a union without the mark that lets its inputs run side by side, where it stands over a cache
abbrev pub single_op : Op → Bool → Op
single_op (join left_on right_on schema told) cached = join left_on right_on schema (record told { allow_parallel = told.allow_parallel && not cached })
single_op (union options) cached = union (record options { parallel = options.parallel && not cached })
single_op op cached = op

-- a plan with its joins and unions so
abbrev mutual
  pub single : Plan → Plan
  single (rose n op ts) = rose tt (single_op op (hold_cache ts)) (single_in ts)

  pub single_in : Roses (Unit {0}) Op → Roses (Unit {0}) Op
  single_in no_roses = no_roses
  single_in (more p rest) = more (single p) (single_in rest)

-- the mark of a node by which its inputs may run side by side, if it has one
abbrev pub own_mark : Op → List Bool
own_mark (join left_on right_on schema told) = told.allow_parallel ∷ []
own_mark (union options) = options.parallel ∷ []
own_mark op = []

-- these marks of the nodes of plans, from left to right
abbrev pub marks_in : Roses (Unit {0}) Op → List Bool
marks_in no_roses = []
marks_in (more (rose n op ts) rest) = own_mark op ++ (marks_in ts ++ marks_in rest)

-- these marks of a plan
abbrev pub marks : Plan → List Bool
marks (rose n op ts) = own_mark op ++ marks_in ts

-- these marks, each gone where the node stands over a cache
abbrev pub marks_due : Roses (Unit {0}) Op → List Bool
marks_due no_roses = []
marks_due (more (rose n op ts) rest) = map (λ (mark : Bool). mark && not (hold_cache ts)) (own_mark op) ++ (marks_due ts ++ marks_due rest)
