-- Runs of additions, each directly on the next, and what becomes of one by itself.
use Rattle.std.specs.Prelude.{◌+◌, ◌++◌, ℕ, zero, suc, Bool, true, false, List, [], ◌∷◌, if◌then◌else◌}
use Rattle.plan_core.specs.Columns.{Columns}
use Rattle.plan_tree.specs.Rose.{Roses, rose, no_roses, more}
use Rattle.plan_ir.specs.Plans.{Op, simple_projection, Plan}
use Rattle.plan_meaning.specs.Checks.{is_empty}
use Rattle.plan_meaning.specs.PlanAt.{one_plan}
use Rattle.plan_collapse_laws.specs.Additions.{Addition, as_op}
use Rattle.plan_collapse_laws.specs.Meeting.{as_one, leaves_order, left_above, moving, stayed, sunk_into, taking}
use Rattle.plan_collapse_laws.specs.Counts.{additions, placing_in}

-- a node of a run: an addition, or a projection that restores the order of columns
pub data Link : Type 0 where
  adds : Addition → Link
  projects : Columns → Link

-- the node that a link is
abbrev pub link_op : Link → Op
link_op (adds u) = as_op u
link_op (projects s) = simple_projection s

-- links over plans, topmost first, each the only input of the one above it
abbrev pub linked_in : List Link → Roses (Unit {0}) Op → Roses (Unit {0}) Op
linked_in [] ts = ts
linked_in (k ∷ ks) ts = more (rose tt (link_op k) (linked_in ks ts)) no_roses

-- the plan that links are over plans
abbrev pub linked : List Link → Roses (Unit {0}) Op → Plan
linked ks ts = one_plan (linked_in ks ts)

-- a projection to these columns on links, where that is asked
abbrev pub projected_if : Bool → Columns → List Link → List Link
projected_if true s ks = projects s ∷ ks
projected_if false s ks = ks

-- an addition on another within a run, over what becomes of an addition in the place of the other
abbrev pub met_links : Addition → Addition → (Addition → List Link) → List Link
met_links u l below =
    if is_empty (stayed u l) then below (as_one u l)
    else (if is_empty (taking u l ++ moving u l) then adds u ∷ below l
    else projected_if (leaves_order u l) u.schema (adds (left_above u l) ∷ below (sunk_into u l)))

-- each pair of additions of a run looked at, from the top down: an addition that became one with the next is looked at again at once, with the link now below it
abbrev mutual
  pub looked_at : List Link → List Link
  looked_at [] = []
  looked_at (adds u ∷ ks) = looked_under ks u
  looked_at (projects s ∷ ks) = projects s ∷ looked_at ks

  -- an addition over these links
  pub looked_under : List Link → Addition → List Link
  looked_under [] u = adds u ∷ []
  looked_under (adds l ∷ ks) u = met_links u l (λ x. looked_under ks x)
  looked_under (projects s ∷ ks) u = adds u ∷ projects s ∷ looked_at ks

-- a run looked at so many times
abbrev pub looks : ℕ → List Link → List Link
looks zero ks = ks
looks (suc n) ks = looks n (looked_at ks)

-- for each expression of a run, how many additions stand below it, and how many additions it has, summed: so many looks can change anything
abbrev pub unrest : List Link → ℕ
unrest ks = placing_in (linked_in ks no_roses) + additions (linked_in ks no_roses)

-- a run brought to rest
abbrev pub rested : List Link → List Link
rested ks = looks (unrest ks) ks
