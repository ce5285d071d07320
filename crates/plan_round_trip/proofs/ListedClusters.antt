-- A plan whose additions of columns were clustered is read again of what is written for it, but for its columns.
use Rattle.std.proofs.Common.{◌≡◌, ℕ, zero, suc, Bool, true, false, cond, List, [], ◌∷◌, ◌++◌, Option, None, Some, map, refl, sym, subst}
use Rattle.std.specs.Prelude.{unwrap_or}
use Rattle.std.specs.List.{AllByRecursion, filter as only_where}
use Rattle.std.specs.Str.{bytes_eq}
use Rattle.plan_core.specs.Columns.{Columns}
use Rattle.plan_tree.specs.Rose.{Roses, rose, no_roses, more}
use Rattle.plan_expr.specs.Exprs.{Named}
use Rattle.plan_expr.specs.Leaves.{Name}
use Rattle.plan_frame.specs.ExprLists.{out_names}
use Rattle.plan_ir.specs.Plans.{Op, Plan, hstack}
use Rattle.plan_meaning.specs.Checks.{is_empty}
use Rattle.plan_meaning.specs.PlanAt.{one_plan}
use Rattle.plan_collapse_laws.specs.Additions.{Addition, addition_of}
use Rattle.plan_collapse_laws.specs.Clustered.{at_node, clustered, clustered_all, over_node, run_over}
use Rattle.plan_collapse_laws.specs.Meeting.{as_one, leaves_order, left_above, moves_down, moving, named_in, replaced, stayed, sunk_into, takes_place, taking}
use Rattle.plan_collapse_laws.specs.Runs.{Link, adds, linked, linked_in, link_op, looked_at, looked_under, looks, met_links, projected_if, projects, rested, unrest}
use Rattle.plan_collapse_laws.specs.Staying.{out, stays}
use Rattle.plan_round_trip.proofs.ListedParts.{RestTold}
use Rattle.plan_round_trip.proofs.ListedTrees.{AreTold, IsTold, first_told, one_more, one_told, rest_told}
use Rattle.plan_round_trip.proofs.Renumbered.{NamedTold}
use Rattle.plan_round_trip.proofs.Trees.{all_append}

abbrev ExprsTold : List Named → Type 0
ExprsTold es = AllByRecursion NamedTold es

abbrev LinkTold : Link → Type 0
LinkTold (adds u) = ExprsTold u.exprs
LinkTold (projects s) = Unit {0}

abbrev LinksTold : List Link → Type 0
LinksTold ks = AllByRecursion LinkTold ks

-- ---- two additions

where_told : (test : Named → Bool) (es : List Named) → ExprsTold es → ExprsTold (only_where test es)
where_told test [] a = tt
where_told test (e ∷ es) a = at (test e) (where_told test es a.1)
  where
    at : (b : Bool) → ExprsTold (only_where test es) → ExprsTold (cond b (e ∷ only_where test es) (only_where test es))
    at true r = (a.0, r)
    at false r = r

named_told : (es : List Named) (b : Name) (l : Named) → ExprsTold es → NamedTold l → NamedTold (unwrap_or (named_in es b) l)
named_told [] b l a t = t
named_told (e ∷ es) b l a t = at (bytes_eq b (out e)) (named_told es b l a.1 t)
  where
    at : (same : Bool) → NamedTold (unwrap_or (named_in es b) l) → NamedTold (unwrap_or (cond same (Some e) (named_in es b)) l)
    at true r = a.0
    at false r = r

replaced_told : (upper lower : List Named) → ExprsTold upper → ExprsTold lower → ExprsTold (replaced upper lower)
replaced_told upper [] a b = tt
replaced_told upper (l ∷ lower) a b = (named_told upper (out l) l a b.0, replaced_told upper lower a b.1)

module _ (u l : Addition) (above : ExprsTold u.exprs) (below : ExprsTold l.exprs) where
  sunk_told : ExprsTold (sunk_into u l).exprs
  sunk_told =
      let stay = stays u.exprs (out_names l.exprs) in
      all_append NamedTold (replaced (taking u l) l.exprs) (moving u l)
      (replaced_told (taking u l) l.exprs (where_told (takes_place (out_names l.exprs) stay) u.exprs above) below)
      (where_told (moves_down (out_names l.exprs) stay) u.exprs above)

  stayed_told : ExprsTold (stayed u l)
  stayed_told = where_told (stays u.exprs (out_names l.exprs)) u.exprs above

  projected_told : (b : Bool) (s : Columns) (ks : List Link) → LinksTold ks → LinksTold (projected_if b s ks)
  projected_told true s ks a = (tt, a)
  projected_told false s ks a = a

  met_told : (into : Addition → List Link) → ((x : Addition) → ExprsTold x.exprs → LinksTold (into x)) → LinksTold (met_links u l into)
  unfolding sunk_told stayed_told
  met_told into step = at (is_empty (stayed u l)) (is_empty (taking u l ++ moving u l))
    where
      at : (none idle : Bool) → LinksTold (cond none (into (as_one u l)) (cond idle (adds u ∷ into l) (projected_if (leaves_order u l) u.schema (adds (left_above u l) ∷ into (sunk_into u l)))))
      at true idle = step (as_one u l) sunk_told
      at false true = (above, step l below)
      at false false = projected_told (leaves_order u l) u.schema (adds (left_above u l) ∷ into (sunk_into u l)) (stayed_told, step (sunk_into u l) sunk_told)

-- ---- runs

mutual
  looked_told : (ks : List Link) → LinksTold ks → LinksTold (looked_at ks)
  looked_told [] a = tt
  looked_told (adds u ∷ ks) a = under_told ks u a.1 a.0
  looked_told (projects s ∷ ks) a = (tt, looked_told ks a.1)

  under_told : (ks : List Link) (u : Addition) → LinksTold ks → ExprsTold u.exprs → LinksTold (looked_under ks u)
  under_told [] u a t = (t, tt)
  under_told (adds l ∷ ks) u a t = met_told u l t a.0 (λ x. looked_under ks x) (λ x h. under_told ks x a.1 h)
  under_told (projects s ∷ ks) u a t = (t, (tt, looked_told ks a.1))

looks_told : (n : ℕ) (ks : List Link) → LinksTold ks → LinksTold (looks n ks)
looks_told zero ks a = a
looks_told (suc n) ks a = looks_told n (looked_at ks) (looked_told ks a)

rested_told : (ks : List Link) → LinksTold ks → LinksTold (rested ks)
rested_told ks a = looks_told (unrest ks) ks a

op_told : (k : Link) → LinkTold k → RestTold (link_op k)
op_told (adds u) t = t
op_told (projects s) t = tt

links_told : (ks : List Link) (ts : Roses (Unit {0}) Op) → LinksTold ks → AreTold ts → AreTold (linked_in ks ts)
links_told [] ts a t = t
links_told (k ∷ ks) ts a t = one_more (rose tt (link_op k) (linked_in ks ts)) no_roses (op_told k a.0, links_told ks ts a.1 t) tt

run_told : (ks : List Link) (ts : Roses (Unit {0}) Op) → LinksTold ks → AreTold ts → IsTold (linked (rested ks) ts)
run_told ks ts a t = one_told (linked_in (rested ks) ts) (links_told (rested ks) ts (rested_told ks a) t)

-- ---- plans

added_told : (op : Op) (u : Addition) → addition_of op ≡ Some u → RestTold op → ExprsTold u.exprs
added_told (hstack es s o) u e t =
    let is : u ≡ record { exprs = es; schema = s; options = o } = cc in
    subst (λ (x : Addition). ExprsTold x.exprs) (sym is) t
added_told op u e t = cc

one_link : (u : Addition) → ExprsTold u.exprs → LinksTold (adds u ∷ [])
one_link u t = (t, tt)

at_told : (o : Option Addition) (op : Op) (us : Roses (Unit {0}) Op) (into : Addition → Plan) → RestTold op → AreTold us → ((u : Addition) → o ≡ Some u → IsTold (into u)) → IsTold (at_node o op us into)
at_told None op us into t a step = (t, a)
at_told (Some u) op us into t a step = step u refl

over_told : (run : List Link) (o : Option Addition) (op : Op) (us : Roses (Unit {0}) Op) (into : List Link → Plan) (rest : Roses (Unit {0}) Op) → LinksTold run → RestTold op → AreTold us → AreTold rest → ((u : Addition) → o ≡ Some u → ExprsTold u.exprs) → ((r : List Link) → LinksTold r → IsTold (into r)) → IsTold (over_node run o op us into rest)
over_told run None op us into rest a t b c own step = run_told run (more (rose tt op us) rest) a (one_more (rose tt op us) rest (t, b) c)
over_told run (Some l) op us into no_roses a t b c own step = step (run ++ adds l ∷ []) (all_append LinkTold run (adds l ∷ []) a (one_link l (own l refl)))
over_told run (Some l) op us into (more p ps) a t b c own step = run_told run (more (into (adds l ∷ [])) (more p ps)) a (one_more (into (adds l ∷ [])) (more p ps) (step (adds l ∷ []) (one_link l (own l refl))) c)

mutual
  pub clustered_told : (p : Plan) → IsTold p → IsTold (clustered p)
  clustered_told (rose n op ts) t =
      at_told (addition_of op) op (clustered_all ts) (λ u. run_over ts (adds u ∷ [])) t.0 (all_clustered_told ts t.1)
      (λ u e. run_over_told ts (adds u ∷ []) (one_link u (added_told op u e t.0)) t.1)

  all_clustered_told : (ts : Roses (Unit {0}) Op) → AreTold ts → AreTold (clustered_all ts)
  all_clustered_told no_roses a = tt
  all_clustered_told (more p rest) a = one_more (clustered p) (clustered_all rest) (clustered_told p (first_told p rest a)) (all_clustered_told rest (rest_told p rest a))

  run_over_told : (ts : Roses (Unit {0}) Op) (run : List Link) → LinksTold run → AreTold ts → IsTold (run_over ts run)
  run_over_told no_roses run a t = run_told run no_roses a t
  run_over_told (more (rose n op ts) rest) run a t =
      let p = first_told (rose n op ts) rest t in
      over_told run (addition_of op) op (clustered_all ts) (λ r. run_over ts r) (clustered_all rest) a p.0 (all_clustered_told ts p.1) (all_clustered_told rest (rest_told (rose n op ts) rest t))
      (λ u e. added_told op u e p.0) (λ r b. run_over_told ts r b p.1)
