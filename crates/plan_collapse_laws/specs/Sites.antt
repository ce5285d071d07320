-- The joins of a plan, each with the run of filters above it, and collapsed plans.
use Rattle.std.specs.Prelude.{◌≡◌, ◌++◌, ◌≤◌, ℕ, zero, suc, min, Bool, true, false, not, ◌&&◌, List, [], ◌∷◌, length, if◌then◌else◌}
use Rattle.std.specs.List.{filter_map, AllByRecursion}
use Rattle.plan_core.specs.Columns.{Columns}
use Rattle.plan_options.specs.declared.join.JoinType.{JoinType}
use Rattle.plan_options.specs.declared.join.JoinType.TheVariants.{Inner, Cross, IEJoin}
use Rattle.plan_options.specs.declared.join.MaintainOrderJoin.{MaintainOrderJoin}
use Rattle.plan_options.specs.declared.join.MaintainOrderJoin.TheVariants as orders
use Rattle.plan_tree.specs.Rose.{Roses, rose, no_roses, more, size}
use Rattle.plan_expr.specs.Exprs.{Named}
use Rattle.plan_join.specs.Told.{Told}
use Rattle.plan_ir.specs.Plans.{Op, filter, join, Plan}
use Rattle.plan_meaning.specs.Checks.{is_empty}
use Rattle.plan_meaning.specs.JoinChecks.{conditions, is_elementwise}
use Rattle.plan_meaning.specs.Typing.{first_schema, rest_schemas, schemas}
use Rattle.plan_collapse_laws.specs.CrossKeys.{all_minterms, Crossed, equality_keys, inequality_keys}

-- the filters directly above a plan, topmost first, with one more below them: a filter that isn't elementwise ends the run
abbrev pub run_with : List Named → Named → List Named
run_with run e = if is_elementwise e.expr then run ++ e ∷ [] else []

-- whether a join is a cross join
abbrev pub is_cross : JoinType → Bool
is_cross Cross = true
is_cross how = false

-- a join of a plan with the run of filters above it, topmost first, and the columns of its sides
pub record JoinSite : Type 0 where
  pub run : List Named
  pub left_on : List Named
  pub right_on : List Named
  pub told : Told
  pub left : Columns
  pub right : Columns

-- a node under a run, over inputs with these columns, if it is a join
abbrev pub own_site : Op → List Named → List Columns → List JoinSite
own_site (join left_on right_on schema told) run ss = record { run = run; left_on = left_on; right_on = right_on; told = told; left = first_schema ss; right = first_schema (rest_schemas ss) } ∷ []
own_site op run ss = []

-- the run above the inputs of a node
abbrev pub run_below : Op → List Named → List Named
run_below (filter e) run = run_with run e
run_below op run = []

-- the joins of plans in walk order, each with its run; the run above these plans is given
abbrev pub join_sites : Roses (Unit {0}) Op → List Named → List JoinSite
join_sites no_roses run = []
join_sites (more (rose n op ts) rest) run = own_site op run (schemas ts) ++ (join_sites ts (run_below op run) ++ join_sites rest run)

-- the cross join of a site
abbrev pub cross_at : JoinSite → Crossed
cross_at j = record { args = j.told.args; left = j.left; right = j.right }

-- how many minterms of the run of a site are eligible equalities
abbrev pub equalities_at : JoinSite → ℕ
equalities_at j = length (filter_map (equality_keys (cross_at j)) (all_minterms j.run))

-- how many are eligible inequalities
abbrev pub inequalities_at : JoinSite → ℕ
inequalities_at j = length (filter_map (inequality_keys (cross_at j)) (all_minterms j.run))

-- a join has this kind, and so many pairs of keys
abbrev pub HasKeys : JoinSite → JoinType → ℕ → Type 0
HasKeys j how n = (j.told.args.how ≡ how) × (length j.left_on ≡ n) × (length j.right_on ≡ n)

-- a join is a cross join with a condition, and without a run
abbrev pub HasCondition : JoinSite → Type 0
HasCondition j = (j.told.args.how ≡ Cross) × (is_empty (conditions j.told.options) ≡ false) × (j.run ≡ [])

-- what a cross join is whose run has no eligible minterm: where its order is free it has a condition in the place of its run, else it stays a cross join
abbrev pub FreeCollapsed : JoinSite → JoinSite → MaintainOrderJoin → Type 0
FreeCollapsed q p orders.None = HasCondition q
FreeCollapsed q p order = q.told.args.how ≡ Cross

-- what a cross join with a run is, by how many eligible equalities and inequalities this has: a join on all equalities, else on the first two inequalities
abbrev pub CrossCollapsed : JoinSite → JoinSite → (equal unequal : ℕ) → Type 0
CrossCollapsed q p (suc n) m = HasKeys q Inner (suc n)
CrossCollapsed q p zero (suc m) = HasKeys q IEJoin (min (suc m) 2)
CrossCollapsed q p zero zero = FreeCollapsed q p p.told.args.maintain_order

-- what a join is, by whether it was a cross join with a run: another keeps its kind
abbrev pub SiteCollapsed : JoinSite → JoinSite → Bool → Type 0
SiteCollapsed q p true = CrossCollapsed q p (equalities_at p) (inequalities_at p)
SiteCollapsed q p false = q.told.args.how ≡ p.told.args.how

-- whether a join is a cross join with a run
abbrev pub has_run : JoinSite → Bool
has_run j = is_cross j.told.args.how && not (is_empty j.run)

-- joins stand one for one for others, collapsed
abbrev pub SitesCollapsed : List JoinSite → List JoinSite → Type 0
SitesCollapsed [] [] = Unit {0}
SitesCollapsed (q ∷ qs) (p ∷ ps) = SiteCollapsed q p (has_run p) × SitesCollapsed qs ps
SitesCollapsed _ _ = ⊥

-- a plan is another, collapsed: its joins stand one for one for those of the other, and it has no more nodes
pub record IsCollapsed (q p : Plan) : Type 0 where
  pub joins : SitesCollapsed (join_sites (more q no_roses) []) (join_sites (more p no_roses) [])
  pub nodes : size (more q no_roses) ≤ size (more p no_roses)

-- no cross join among some sites has a run
abbrev pub AreIdle : List JoinSite → Type 0
AreIdle sites = AllByRecursion (λ (j : JoinSite). has_run j ≡ false) sites
