-- Caches of one number stand over alike plans after join collapse where they did before.
use Rattle.std.proofs.Common.{◌≡◌, ◌∙◌, ◌++◌, Bool, true, false, List, [], ◌∷◌, map, Option, Some, None, refl, sym, ap, ap₂, subst, inl, inr, ⊎_elim}
use Rattle.plan_core.specs.Columns.{Columns}
use Rattle.plan_tree.specs.Rose.{Roses, rose, no_roses, more}
use Rattle.plan_expr.specs.Exprs.{Expr, Named}
use Rattle.plan_join.specs.Told.{Told}
use Rattle.plan_ir.specs.Plans.{Op, scan, union, cache, filter, invalid, join, Plan}
use Rattle.plan_meaning.specs.Caches.{AreShared, CacheOf, IsCacheOf, caches, caches_in, own_cache}
use Rattle.plan_meaning.specs.JoinChecks.{conditions, is_elementwise}
use Rattle.plan_meaning.specs.Marks.{unmarked, unmarked_all, unmarked_op}
use Rattle.plan_meaning.specs.PlanAt.{one_plan}
use Rattle.plan_schema.specs.Stored.{stored_all, stored_by}
use Rattle.plan_collapse_laws.specs.TakenKeys.{and_all, self_named, told_now, left_keys, right_keys}
use Rattle.plan_collapse_laws.specs.Collapsed.{at_filter, at_join, collapsed, collapsed_all, collapsed_at, collapsed_cross, collapsed_under, filtered_by, first_under, keeping, under}
use Rattle.plan_collapse_laws.specs.Sites.{is_cross}
use Rattle.plan_collapse_laws.specs.Cached.{Became}
use Rattle.plan_collapse_laws.proofs.CacheLists.{became_left, became_right, either_cache, last_cache}
use Rattle.plan_collapse_laws.proofs.Filters.{one}
use Rattle.plan_collapse_laws.proofs.NodeKinds.{Kind, a_filter, a_join, another, cross_cases, kind_of}

-- a plan without marks is collapsed as it is with them

one_unmarked : (e : Named) (q : Plan) → unmarked (rose tt (filter e) (one q)) ≡ rose tt (filter e) (one (unmarked q))
one_unmarked e (rose n op ts) = refl

under_unmarked : (run : List Named) (q : Plan) → unmarked (under run q) ≡ under run (unmarked q)
under_unmarked [] q = refl
under_unmarked (e ∷ run) q = one_unmarked e (under run q) ∙ ap (λ (x : Plan). rose tt (filter e) (one x)) (under_unmarked run q)

filtered_unmarked : (o : Option Expr) (q : Plan) → unmarked (filtered_by o q) ≡ filtered_by o (unmarked q)
filtered_unmarked None q = refl
filtered_unmarked (Some e) q = one_unmarked (self_named e) q

cross_unmarked : (run : List Named) (stored : Columns) (told : Told) (ss : List Columns) (inputs : Roses (Unit {0}) Op) → unmarked (collapsed_cross run stored told ss inputs) ≡ collapsed_cross run stored told ss (unmarked_all inputs)
cross_unmarked run stored told ss inputs = cross_cases (λ (q : Roses (Unit {0}) Op → Plan). unmarked (q inputs) ≡ q (unmarked_all inputs)) stored told
    (λ how options ks rest. filtered_unmarked (and_all (rest ++ map (λ (e : Named). e.expr) (conditions told.options))) (rose tt (join (left_keys ks) (right_keys ks) stored (told_now (keeping how told.args) options told)) inputs))
    (λ e. refl)
    run ss (under_unmarked run (rose tt (join [] [] stored told) inputs))

stored_bare : (op : Op) (ss : List Columns) → stored_by (unmarked_op op) ss ≡ stored_by op ss
stored_bare (scan a b c d e f g) ss = refl
stored_bare (union a) ss = refl
stored_bare op ss = refl

stored_unmarked : (ts : Roses (Unit {0}) Op) → stored_all (unmarked_all ts) ≡ stored_all ts
stored_unmarked no_roses = refl
stored_unmarked (more (rose n op ts) rest) = ap₂ (λ (s : Columns) (ss : List Columns). s ∷ ss) (stored_bare op (stored_all (unmarked_all ts)) ∙ ap (stored_by op) (stored_unmarked ts)) (stored_unmarked rest)

mutual
  pub run_unmarked : (p : Plan) (run : List Named) → unmarked (collapsed_under p run) ≡ collapsed_under (unmarked p) run
  run_unmarked (rose n op ts) run = at op (kind_of op) (all_unmarked ts) (λ r. first_unmarked ts r)
    where
      at : (o : Op) → Kind o → unmarked_all (collapsed_all ts) ≡ collapsed_all (unmarked_all ts) → ((r : List Named) → unmarked (first_under ts r) ≡ first_under (unmarked_all ts) r)
          → unmarked (collapsed_at o run (stored_all ts) (collapsed_all ts) (λ r. first_under ts r)) ≡ collapsed_at (unmarked_op o) run (stored_all (unmarked_all ts)) (collapsed_all (unmarked_all ts)) (λ r. first_under (unmarked_all ts) r)
      at _ (a_filter e) all first = filters (is_elementwise e.expr)
        where
          filters : (b : Bool) → unmarked (at_filter b run e (collapsed_all ts) (λ r. first_under ts r)) ≡ at_filter b run e (collapsed_all (unmarked_all ts)) (λ r. first_under (unmarked_all ts) r)
          filters true = first (run ++ e ∷ [])
          filters false = under_unmarked run (rose tt (filter e) (collapsed_all ts)) ∙ ap (λ (qs : Roses (Unit {0}) Op). under run (rose tt (filter e) qs)) all
      at _ (a_join left_on right_on stored told) all first = joins (is_cross told.args.how)
        where
          joins : (b : Bool) → unmarked (at_join b run left_on right_on stored told (stored_all ts) (collapsed_all ts)) ≡ at_join b run left_on right_on stored told (stored_all (unmarked_all ts)) (collapsed_all (unmarked_all ts))
          joins true = cross_unmarked run stored told (stored_all ts) (collapsed_all ts) ∙ ap₂ (λ (ss : List Columns) (qs : Roses (Unit {0}) Op). collapsed_cross run stored told ss qs) (sym (stored_unmarked ts)) all
          joins false = under_unmarked run (rose tt (join left_on right_on stored told) (collapsed_all ts)) ∙ ap (λ (qs : Roses (Unit {0}) Op). under run (rose tt (join left_on right_on stored told) qs)) all
      at _ (another o k) all first =
          ap unmarked (k.stays run (stored_all ts) (collapsed_all ts) (λ r. first_under ts r))
          ∙ under_unmarked run (rose tt o (collapsed_all ts))
          ∙ ap (λ (qs : Roses (Unit {0}) Op). under run (rose tt (unmarked_op o) qs)) all
          ∙ sym (k.stays_bare run (stored_all (unmarked_all ts)) (collapsed_all (unmarked_all ts)) (λ r. first_under (unmarked_all ts) r))

  all_unmarked : (ts : Roses (Unit {0}) Op) → unmarked_all (collapsed_all ts) ≡ collapsed_all (unmarked_all ts)
  all_unmarked no_roses = refl
  all_unmarked (more (rose n op ts) rest) = first (collapsed_under (rose n op ts) []) ∙ ap₂ (λ (q : Plan) (qs : Roses (Unit {0}) Op). more q qs) (run_unmarked (rose n op ts) []) (all_unmarked rest)
    where
      first : (q : Plan) → unmarked_all (more q (collapsed_all rest)) ≡ more (unmarked q) (unmarked_all (collapsed_all rest))
      first (rose m o us) = refl

  first_unmarked : (ts : Roses (Unit {0}) Op) (r : List Named) → unmarked (first_under ts r) ≡ first_under (unmarked_all ts) r
  first_unmarked no_roses r = under_unmarked r (rose tt invalid no_roses)
  first_unmarked (more (rose n op ts) rest) r = run_unmarked (rose n op ts) r

-- caches

under_caches : (run : List Named) (q : Plan) (c : CacheOf) → IsCacheOf c (caches (under run q)) → IsCacheOf c (caches q)
under_caches [] q c i = i
under_caches (e ∷ run) q c i = under_caches run q c (last_cache c (caches (under run q)) i)

filtered_caches : (o : Option Expr) (q : Plan) (c : CacheOf) → IsCacheOf c (caches (filtered_by o q)) → IsCacheOf c (caches q)
filtered_caches None q c i = i
filtered_caches (Some e) q c i = last_cache c (caches q) i

cross_caches : (run : List Named) (stored : Columns) (told : Told) (ss : List Columns) (inputs : Roses (Unit {0}) Op) (c : CacheOf) → IsCacheOf c (caches (collapsed_cross run stored told ss inputs)) → IsCacheOf c (caches_in inputs)
cross_caches run stored told ss inputs c = cross_cases (λ (q : Roses (Unit {0}) Op → Plan). IsCacheOf c (caches (q inputs)) → IsCacheOf c (caches_in inputs)) stored told
    (λ how options ks rest i. filtered_caches (and_all (rest ++ map (λ (e : Named). e.expr) (conditions told.options))) (rose tt (join (left_keys ks) (right_keys ks) stored (told_now (keeping how told.args) options told)) inputs) c i)
    (λ e i. i)
    run ss (λ i. under_caches run (rose tt (join [] [] stored told) inputs) c i)

one_collapsed : (ts : Roses (Unit {0}) Op) → one_plan (collapsed_all ts) ≡ collapsed (one_plan ts)
one_collapsed no_roses = refl
one_collapsed (more p ps) = refl

own_became : (op : Op) (ts : Roses (Unit {0}) Op) (c : CacheOf) → IsCacheOf c (own_cache op (collapsed_all ts)) → Became collapsed c (own_cache op ts)
own_became (cache id hits) ts c (inl q) = (record { id = id; below = one_plan ts }, inl refl, ap (λ (x : CacheOf). x.id) q, ap (λ (x : CacheOf). x.below) q ∙ one_collapsed ts)
own_became (cache id hits) ts c (inr i) = absurd i
own_became op ts c i = absurd i

mutual
  pub run_caches : (p : Plan) (run : List Named) (c : CacheOf) → IsCacheOf c (caches (collapsed_under p run)) → Became collapsed c (caches p)
  run_caches (rose n op ts) run c i = at op (kind_of op) (λ j. all_caches ts c j) (λ r j. first_caches ts r c j) i
    where
      at : (o : Op) → Kind o → (IsCacheOf c (caches_in (collapsed_all ts)) → Became collapsed c (caches_in ts)) → ((r : List Named) → IsCacheOf c (caches (first_under ts r)) → Became collapsed c (caches_in ts)) → IsCacheOf c (caches (collapsed_at o run (stored_all ts) (collapsed_all ts) (λ r. first_under ts r))) → Became collapsed c (own_cache o ts ++ caches_in ts)
      at _ (a_filter e) all first j = filters (is_elementwise e.expr) j
        where
          filters : (b : Bool) → IsCacheOf c (caches (at_filter b run e (collapsed_all ts) (λ r. first_under ts r))) → Became collapsed c (caches_in ts)
          filters true k = first (run ++ e ∷ []) k
          filters false k = all (under_caches run (rose tt (filter e) (collapsed_all ts)) c k)
      at _ (a_join left_on right_on stored told) all first j = joins (is_cross told.args.how) j
        where
          joins : (b : Bool) → IsCacheOf c (caches (at_join b run left_on right_on stored told (stored_all ts) (collapsed_all ts))) → Became collapsed c (caches_in ts)
          joins true k = all (cross_caches run stored told (stored_all ts) (collapsed_all ts) c k)
          joins false k = all (under_caches run (rose tt (join left_on right_on stored told) (collapsed_all ts)) c k)
      at _ (another o k) all first j =
          let under_run : IsCacheOf c (caches (under run (rose tt o (collapsed_all ts)))) = subst (λ (q : Plan). IsCacheOf c (caches q)) (k.stays run (stored_all ts) (collapsed_all ts) (λ r. first_under ts r)) j in
          ⊎_elim (λ x. became_left collapsed c (own_cache o ts) (caches_in ts) (own_became o ts c x)) (λ x. became_right collapsed c (own_cache o ts) (caches_in ts) (all x))
          (either_cache c (own_cache o (collapsed_all ts)) (caches_in (collapsed_all ts)) (under_caches run (rose tt o (collapsed_all ts)) c under_run))

  all_caches : (ts : Roses (Unit {0}) Op) (c : CacheOf) → IsCacheOf c (caches_in (collapsed_all ts)) → Became collapsed c (caches_in ts)
  all_caches no_roses c i = absurd i
  all_caches (more p rest) c i = ⊎_elim (λ k. became_left collapsed c (caches p) (caches_in rest) (run_caches p [] c k)) (λ k. became_right collapsed c (caches p) (caches_in rest) (all_caches rest c k)) (either_cache c (caches (collapsed_under p [])) (caches_in (collapsed_all rest)) i)

  first_caches : (ts : Roses (Unit {0}) Op) (r : List Named) (c : CacheOf) → IsCacheOf c (caches (first_under ts r)) → Became collapsed c (caches_in ts)
  first_caches no_roses r c i = absurd (under_caches r (rose tt invalid no_roses) c i)
  first_caches (more p rest) r c i = became_left collapsed c (caches p) (caches_in rest) (run_caches p r c i)

-- caches of one number stand over alike plans where they did
pub collapsed_shared : (p : Plan) → AreShared p → AreShared (collapsed p)
collapsed_shared p h c d i j e =
    let x = run_caches p [] c i in
    let y = run_caches p [] d j in
    ap unmarked x.3 ∙ run_unmarked x.0.below [] ∙ ap collapsed (h x.0 y.0 x.1 y.1 (sym x.2 ∙ e ∙ y.2)) ∙ sym (ap unmarked y.3 ∙ run_unmarked y.0.below [])
