-- What clustering keeps: scans, what is cached, and the count of nodes.
use Rattle.std.proofs.Common.{◌≡◌, ◌∙◌, ◌++◌, ◌+◌, ◌≤◌, List, [], ◌∷◌, Option, Some, None, refl, sym, ap, ap₂, subst, false, inl, inr, ⊎_elim}
use Rattle.std.proofs.lemmas.List.{append-nil}
use Rattle.plan_tree.specs.Rose.{Roses, rose, no_roses, more}
use Rattle.plan_ir.specs.Plans.{Op, scan, union, cache, Plan}
use Rattle.plan_meaning.specs.Checks.{is_empty}
use Rattle.plan_meaning.specs.Caches.{AreShared, CacheOf, IsCacheOf, caches, caches_in, own_cache}
use Rattle.plan_meaning.specs.PlanAt.{one_plan}
use Rattle.plan_meaning.specs.Marks.{unmarked, unmarked_all, unmarked_op}
use Rattle.plan_meaning.specs.Scans.{own_scan, scans, scans_in, KeepScans, Keeps, nodes}
use Rattle.plan_meaning.proofs.Keeping.{keeps_refl}
use Rattle.plan_collapse_laws.specs.Additions.{Addition, addition_of}
use Rattle.plan_collapse_laws.specs.Counts.{placing}
use Rattle.plan_collapse_laws.specs.Runs.{Link, adds, projects, link_op, linked, linked_in, rested}
use Rattle.plan_collapse_laws.specs.Clustered.{at_node, clustered, clustered_all, over_node, run_over}
use Rattle.plan_collapse_laws.specs.Cached.{Became}
use Rattle.plan_collapse_laws.proofs.CacheLists.{became_left, became_right, either_cache}
use Rattle.plan_collapse_laws.proofs.Counted.{AllLighter, Lighter, both_lighter, is_addition, lighter_trans, node_lighter}
use Rattle.plan_collapse_laws.proofs.Links.{all_same, last_some, linked-last, linked_lighter, linked_one, one, rested_lighter, rested_some}

-- scans

no_scan : (k : Link) → own_scan (link_op k) ≡ []
no_scan (adds u) = refl
no_scan (projects s) = refl

links_scans : (ks : List Link) (ts : Roses (Unit {0}) Op) → scans_in (linked_in ks ts) ≡ scans_in ts
links_scans [] ts = refl
links_scans (k ∷ ks) ts = append-nil (own_scan (link_op k) ++ scans_in (linked_in ks ts)) ∙ ap₂ (λ (xs ys : List Op). xs ++ ys) (no_scan k) (links_scans ks ts)

linked_scans : (ks : List Link) (ts : Roses (Unit {0}) Op) → is_empty ks ≡ false → scans (linked ks ts) ≡ scans_in ts
linked_scans ks ts e = sym (append-nil (scans (linked ks ts))) ∙ ap scans_in (sym (linked_one ks ts e)) ∙ links_scans ks ts

mutual
  pub clustered_scans : (p : Plan) → scans (clustered p) ≡ scans p
  clustered_scans (rose n op ts) = at (addition_of op) refl (all_scans ts) (λ run e. run_scans ts run e)
    where
      at : (o : Option Addition) → addition_of op ≡ o → scans_in (clustered_all ts) ≡ scans_in ts → ((run : List Link) → is_empty run ≡ false → scans (run_over ts run) ≡ scans_in ts) → scans (at_node o op (clustered_all ts) (λ u. run_over ts (adds u ∷ []))) ≡ own_scan op ++ scans_in ts
      at None e all runs = ap (λ (ys : List Op). own_scan op ++ ys) all
      at (Some u) e all runs = runs (adds u ∷ []) refl ∙ ap (λ (o : Op). own_scan o ++ scans_in ts) (sym (is_addition op u e))

  pub all_scans : (ps : Roses (Unit {0}) Op) → scans_in (clustered_all ps) ≡ scans_in ps
  all_scans no_roses = refl
  all_scans (more p ps) = ap₂ (λ (xs ys : List Op). xs ++ ys) (clustered_scans p) (all_scans ps)

  pub run_scans : (ts : Roses (Unit {0}) Op) (run : List Link) → is_empty run ≡ false → scans (run_over ts run) ≡ scans_in ts
  run_scans no_roses run s = linked_scans (rested run) no_roses (rested_some run s)
  run_scans (more (rose n op ts) rest) run s = at rest (addition_of op) refl (all_scans ts) (λ r e. run_scans ts r e) (all_scans rest)
    where
      at : (ps : Roses (Unit {0}) Op) (o : Option Addition) → addition_of op ≡ o → scans_in (clustered_all ts) ≡ scans_in ts → ((r : List Link) → is_empty r ≡ false → scans (run_over ts r) ≡ scans_in ts) → scans_in (clustered_all ps) ≡ scans_in ps → scans (over_node run o op (clustered_all ts) (λ r. run_over ts r) (clustered_all ps)) ≡ (own_scan op ++ scans_in ts) ++ scans_in ps
      at ps None e all runs others = linked_scans (rested run) (more (rose tt op (clustered_all ts)) (clustered_all ps)) (rested_some run s) ∙ ap₂ (λ (xs ys : List Op). (own_scan op ++ xs) ++ ys) all others
      at no_roses (Some l) e all runs others =
          runs (run ++ adds l ∷ []) (last_some run (adds l)) ∙ sym (append-nil (scans_in ts)) ∙ ap (λ (o : Op). (own_scan o ++ scans_in ts) ++ []) (sym (is_addition op l e))
      at (more p ps) (Some l) e all runs others =
          linked_scans (rested run) (more (run_over ts (adds l ∷ [])) (clustered_all (more p ps))) (rested_some run s)
          ∙ ap₂ (λ (xs ys : List Op). xs ++ ys) (runs (adds l ∷ []) refl ∙ ap (λ (o : Op). own_scan o ++ scans_in ts) (sym (is_addition op l e))) others

pub clustered_keeps : (p : Plan) → Keeps (clustered p) p
clustered_keeps p = subst (λ (os : List Op). KeepScans os (scans p)) (sym (clustered_scans p)) (keeps_refl p)

-- nodes and placing

mutual
  pub clustered_lighter : (p : Plan) → Lighter (clustered p) p
  clustered_lighter (rose n op ts) = at (addition_of op) refl (all_lighter ts) (λ run e. run_lighter ts run e)
    where
      at : (o : Option Addition) → addition_of op ≡ o → AllLighter (clustered_all ts) ts → ((run : List Link) → is_empty run ≡ false → Lighter (run_over ts run) (linked run ts)) → Lighter (at_node o op (clustered_all ts) (λ u. run_over ts (adds u ∷ []))) (rose tt op ts)
      at None e all runs = node_lighter op (clustered_all ts) ts all
      at (Some u) e all runs = subst (λ (o : Op). Lighter (run_over ts (adds u ∷ [])) (rose tt o ts)) (sym (is_addition op u e)) (runs (adds u ∷ []) refl)

  pub all_lighter : (ps : Roses (Unit {0}) Op) → AllLighter (clustered_all ps) ps
  all_lighter no_roses = all_same no_roses
  all_lighter (more p ps) = both_lighter (clustered p) p (clustered_all ps) ps (clustered_lighter p) (all_lighter ps)

  pub run_lighter : (ts : Roses (Unit {0}) Op) (run : List Link) → is_empty run ≡ false → Lighter (run_over ts run) (linked run ts)
  run_lighter no_roses run s = rested_lighter run no_roses s
  run_lighter (more (rose n op ts) rest) run s = at rest (addition_of op) refl (all_lighter ts) (λ r e. run_lighter ts r e) (all_lighter rest)
    where
      put : (qs us : Roses (Unit {0}) Op) → AllLighter qs us → Lighter (linked (rested run) qs) (linked run us)
      put qs us h = lighter_trans (linked (rested run) qs) (linked run qs) (linked run us) (rested_lighter run qs s) (linked_lighter run qs us s h)

      at : (ps : Roses (Unit {0}) Op) (o : Option Addition) → addition_of op ≡ o → AllLighter (clustered_all ts) ts → ((r : List Link) → is_empty r ≡ false → Lighter (run_over ts r) (linked r ts)) → AllLighter (clustered_all ps) ps → Lighter (over_node run o op (clustered_all ts) (λ r. run_over ts r) (clustered_all ps)) (linked run (more (rose tt op ts) ps))
      at ps None e all runs others = put (more (rose tt op (clustered_all ts)) (clustered_all ps)) (more (rose tt op ts) ps) (both_lighter (rose tt op (clustered_all ts)) (rose tt op ts) (clustered_all ps) ps (node_lighter op (clustered_all ts) ts all) others)
      at no_roses (Some l) e all runs others =
          subst (λ (p : Plan). Lighter (run_over ts (run ++ adds l ∷ [])) p) (linked-last run l ts ∙ ap (λ (o : Op). linked run (one (rose tt o ts))) (sym (is_addition op l e))) (runs (run ++ adds l ∷ []) (last_some run (adds l)))
      at (more p ps) (Some l) e all runs others =
          put (more (run_over ts (adds l ∷ [])) (clustered_all (more p ps))) (more (rose tt op ts) (more p ps))
          (both_lighter (run_over ts (adds l ∷ [])) (rose tt op ts) (clustered_all (more p ps)) (more p ps) (subst (λ (o : Op). Lighter (run_over ts (adds l ∷ [])) (rose tt o ts)) (sym (is_addition op l e)) (runs (adds l ∷ []) refl)) others)

pub clustered_few : (p : Plan) → nodes (clustered p) + placing (clustered p) ≤ nodes p + placing p
clustered_few p = (clustered_lighter p).sized

-- a plan without marks is clustered as it is with them

same_addition : (op : Op) → addition_of (unmarked_op op) ≡ addition_of op
same_addition (scan a b c d f g h) = refl
same_addition (union a) = refl
same_addition op = refl

bare_link : (k : Link) → unmarked_op (link_op k) ≡ link_op k
bare_link (adds u) = refl
bare_link (projects s) = refl

one_unmarked : (q : Plan) → unmarked_all (one q) ≡ one (unmarked q)
one_unmarked (rose n op ts) = refl

links_unmarked : (ks : List Link) (ts : Roses (Unit {0}) Op) → unmarked_all (linked_in ks ts) ≡ linked_in ks (unmarked_all ts)
links_unmarked [] ts = refl
links_unmarked (k ∷ ks) ts = ap₂ (λ (o : Op) (us : Roses (Unit {0}) Op). one (rose tt o us)) (bare_link k) (links_unmarked ks ts)

linked_unmarked : (ks : List Link) (ts : Roses (Unit {0}) Op) → is_empty ks ≡ false → unmarked (linked ks ts) ≡ linked ks (unmarked_all ts)
linked_unmarked ks ts e = ap one_plan (sym (one_unmarked (linked ks ts)) ∙ ap unmarked_all (sym (linked_one ks ts e)) ∙ links_unmarked ks ts)

more_unmarked : (q : Plan) (qs : Roses (Unit {0}) Op) → unmarked_all (more q qs) ≡ more (unmarked q) (unmarked_all qs)
more_unmarked (rose n op ts) qs = refl

mutual
  pub clustered_unmarked : (p : Plan) → unmarked (clustered p) ≡ clustered (unmarked p)
  clustered_unmarked (rose n op ts) = at (addition_of op) refl (all_unmarked ts) (λ run e. run_unmarked ts run e)
    where
      at : (o : Option Addition) → addition_of op ≡ o → unmarked_all (clustered_all ts) ≡ clustered_all (unmarked_all ts) → ((run : List Link) → is_empty run ≡ false → unmarked (run_over ts run) ≡ run_over (unmarked_all ts) run) → unmarked (at_node o op (clustered_all ts) (λ u. run_over ts (adds u ∷ []))) ≡ clustered (rose tt (unmarked_op op) (unmarked_all ts))
      at None e all runs = ap (rose tt (unmarked_op op)) all ∙ sym (ap (λ (o : Option Addition). at_node o (unmarked_op op) (clustered_all (unmarked_all ts)) (λ u. run_over (unmarked_all ts) (adds u ∷ []))) (same_addition op ∙ e))
      at (Some u) e all runs = runs (adds u ∷ []) refl ∙ sym (ap (λ (o : Option Addition). at_node o (unmarked_op op) (clustered_all (unmarked_all ts)) (λ u. run_over (unmarked_all ts) (adds u ∷ []))) (same_addition op ∙ e))

  pub all_unmarked : (ps : Roses (Unit {0}) Op) → unmarked_all (clustered_all ps) ≡ clustered_all (unmarked_all ps)
  all_unmarked no_roses = refl
  all_unmarked (more (rose n op ts) ps) = more_unmarked (clustered (rose n op ts)) (clustered_all ps) ∙ ap₂ (λ (q : Plan) (qs : Roses (Unit {0}) Op). more q qs) (clustered_unmarked (rose n op ts)) (all_unmarked ps)

  pub run_unmarked : (ts : Roses (Unit {0}) Op) (run : List Link) → is_empty run ≡ false → unmarked (run_over ts run) ≡ run_over (unmarked_all ts) run
  run_unmarked no_roses run s = linked_unmarked (rested run) no_roses (rested_some run s)
  run_unmarked (more (rose n op ts) rest) run s = at rest (addition_of op) refl (all_unmarked ts) (λ r e. run_unmarked ts r e) (all_unmarked rest)
    where
      turned : (o : Option Addition) (ps : Roses (Unit {0}) Op) → addition_of op ≡ o → over_node run o (unmarked_op op) (clustered_all (unmarked_all ts)) (λ r. run_over (unmarked_all ts) r) (clustered_all (unmarked_all ps)) ≡ run_over (more (rose tt (unmarked_op op) (unmarked_all ts)) (unmarked_all ps)) run
      turned o ps e = sym (ap (λ (x : Option Addition). over_node run x (unmarked_op op) (clustered_all (unmarked_all ts)) (λ r. run_over (unmarked_all ts) r) (clustered_all (unmarked_all ps))) (same_addition op ∙ e))

      at : (ps : Roses (Unit {0}) Op) (o : Option Addition) → addition_of op ≡ o → unmarked_all (clustered_all ts) ≡ clustered_all (unmarked_all ts) → ((r : List Link) → is_empty r ≡ false → unmarked (run_over ts r) ≡ run_over (unmarked_all ts) r) → unmarked_all (clustered_all ps) ≡ clustered_all (unmarked_all ps) → unmarked (over_node run o op (clustered_all ts) (λ r. run_over ts r) (clustered_all ps)) ≡ run_over (more (rose tt (unmarked_op op) (unmarked_all ts)) (unmarked_all ps)) run
      at ps None e all runs others =
          linked_unmarked (rested run) (more (rose tt op (clustered_all ts)) (clustered_all ps)) (rested_some run s)
          ∙ ap₂ (λ (us qs : Roses (Unit {0}) Op). linked (rested run) (more (rose tt (unmarked_op op) us) qs)) all others
          ∙ turned None ps e
      at no_roses (Some l) e all runs others = runs (run ++ adds l ∷ []) (last_some run (adds l)) ∙ turned (Some l) no_roses e
      at (more (rose m o us) ps) (Some l) e all runs others =
          linked_unmarked (rested run) (more (run_over ts (adds l ∷ [])) (clustered_all (more (rose m o us) ps))) (rested_some run s)
          ∙ ap (linked (rested run)) (more_unmarked (run_over ts (adds l ∷ [])) (clustered_all (more (rose m o us) ps)))
          ∙ ap₂ (λ (q : Plan) (qs : Roses (Unit {0}) Op). linked (rested run) (more q qs)) (runs (adds l ∷ []) refl) others
          ∙ turned (Some l) (more (rose m o us) ps) e

-- plans that are alike are clustered alike
pub clustered_alike : (p q : Plan) → unmarked p ≡ unmarked q → unmarked (clustered p) ≡ unmarked (clustered q)
clustered_alike p q e = clustered_unmarked p ∙ ap clustered e ∙ sym (clustered_unmarked q)

-- caches

links_caches : (ks : List Link) (ts : Roses (Unit {0}) Op) → caches_in (linked_in ks ts) ≡ caches_in ts
links_caches [] ts = refl
links_caches (adds u ∷ ks) ts = append-nil (caches_in (linked_in ks ts)) ∙ links_caches ks ts
links_caches (projects s ∷ ks) ts = append-nil (caches_in (linked_in ks ts)) ∙ links_caches ks ts

linked_caches : (ks : List Link) (ts : Roses (Unit {0}) Op) → is_empty ks ≡ false → caches (linked ks ts) ≡ caches_in ts
linked_caches ks ts e = sym (append-nil (caches (linked ks ts))) ∙ ap caches_in (sym (linked_one ks ts e)) ∙ links_caches ks ts

one_clustered : (ts : Roses (Unit {0}) Op) → one_plan (clustered_all ts) ≡ clustered (one_plan ts)
one_clustered no_roses = refl
one_clustered (more p ps) = refl

own_clustered : (op : Op) (ts : Roses (Unit {0}) Op) (c : CacheOf) → IsCacheOf c (own_cache op (clustered_all ts)) → Became clustered c (own_cache op ts)
own_clustered (cache id hits) ts c (inl q) = (record { id = id; below = one_plan ts }, inl refl, ap (λ (x : CacheOf). x.id) q, ap (λ (x : CacheOf). x.below) q ∙ one_clustered ts)
own_clustered (cache id hits) ts c (inr i) = absurd i
own_clustered op ts c i = absurd i

mutual
  pub clustered_caches : (p : Plan) (c : CacheOf) → IsCacheOf c (caches (clustered p)) → Became clustered c (caches p)
  clustered_caches (rose n op ts) c i = at (addition_of op) refl (λ j. all_caches ts c j) (λ run e j. run_caches ts run e c j) i
    where
      at : (o : Option Addition) → addition_of op ≡ o → (IsCacheOf c (caches_in (clustered_all ts)) → Became clustered c (caches_in ts)) → ((run : List Link) → is_empty run ≡ false → IsCacheOf c (caches (run_over ts run)) → Became clustered c (caches_in ts)) → IsCacheOf c (caches (at_node o op (clustered_all ts) (λ u. run_over ts (adds u ∷ [])))) → Became clustered c (own_cache op ts ++ caches_in ts)
      at None e all runs j = ⊎_elim (λ k. became_left clustered c (own_cache op ts) (caches_in ts) (own_clustered op ts c k)) (λ k. became_right clustered c (own_cache op ts) (caches_in ts) (all k)) (either_cache c (own_cache op (clustered_all ts)) (caches_in (clustered_all ts)) j)
      at (Some u) e all runs j = became_right clustered c (own_cache op ts) (caches_in ts) (runs (adds u ∷ []) refl j)

  pub all_caches : (ps : Roses (Unit {0}) Op) (c : CacheOf) → IsCacheOf c (caches_in (clustered_all ps)) → Became clustered c (caches_in ps)
  all_caches no_roses c i = absurd i
  all_caches (more p ps) c i = ⊎_elim (λ k. became_left clustered c (caches p) (caches_in ps) (clustered_caches p c k)) (λ k. became_right clustered c (caches p) (caches_in ps) (all_caches ps c k)) (either_cache c (caches (clustered p)) (caches_in (clustered_all ps)) i)

  pub run_caches : (ts : Roses (Unit {0}) Op) (run : List Link) → is_empty run ≡ false → (c : CacheOf) → IsCacheOf c (caches (run_over ts run)) → Became clustered c (caches_in ts)
  run_caches no_roses run s c i = absurd (subst (IsCacheOf c) (linked_caches (rested run) no_roses (rested_some run s)) i)
  run_caches (more (rose n op ts) rest) run s c i = at rest (addition_of op) refl (λ j. all_caches ts c j) (λ r e j. run_caches ts r e c j) (λ j. all_caches rest c j) i
    where
      at : (ps : Roses (Unit {0}) Op) (o : Option Addition) → addition_of op ≡ o → (IsCacheOf c (caches_in (clustered_all ts)) → Became clustered c (caches_in ts)) → ((r : List Link) → is_empty r ≡ false → IsCacheOf c (caches (run_over ts r)) → Became clustered c (caches_in ts)) → (IsCacheOf c (caches_in (clustered_all ps)) → Became clustered c (caches_in ps)) → IsCacheOf c (caches (over_node run o op (clustered_all ts) (λ r. run_over ts r) (clustered_all ps))) → Became clustered c ((own_cache op ts ++ caches_in ts) ++ caches_in ps)
      at ps None e all runs others j =
          ⊎_elim
          (λ k. became_left clustered c (own_cache op ts ++ caches_in ts) (caches_in ps) (⊎_elim (λ m. became_left clustered c (own_cache op ts) (caches_in ts) (own_clustered op ts c m)) (λ m. became_right clustered c (own_cache op ts) (caches_in ts) (all m)) (either_cache c (own_cache op (clustered_all ts)) (caches_in (clustered_all ts)) k)))
          (λ k. became_right clustered c (own_cache op ts ++ caches_in ts) (caches_in ps) (others k))
          (either_cache c (own_cache op (clustered_all ts) ++ caches_in (clustered_all ts)) (caches_in (clustered_all ps))
          (subst (IsCacheOf c) (linked_caches (rested run) (more (rose tt op (clustered_all ts)) (clustered_all ps)) (rested_some run s)) j))
      at no_roses (Some l) e all runs others j = became_left clustered c (own_cache op ts ++ caches_in ts) [] (became_right clustered c (own_cache op ts) (caches_in ts) (runs (run ++ adds l ∷ []) (last_some run (adds l)) j))
      at (more p ps) (Some l) e all runs others j =
          ⊎_elim
          (λ k. became_left clustered c (own_cache op ts ++ caches_in ts) (caches_in (more p ps)) (became_right clustered c (own_cache op ts) (caches_in ts) (runs (adds l ∷ []) refl k)))
          (λ k. became_right clustered c (own_cache op ts ++ caches_in ts) (caches_in (more p ps)) (others k))
          (either_cache c (caches (run_over ts (adds l ∷ []))) (caches_in (clustered_all (more p ps)))
          (subst (IsCacheOf c) (linked_caches (rested run) (more (run_over ts (adds l ∷ [])) (clustered_all (more p ps))) (rested_some run s)) j))

-- caches of one number stand over alike plans where they did
pub clustered_shared : (p : Plan) → AreShared p → AreShared (clustered p)
clustered_shared p h c d i j e =
    let x = clustered_caches p c i in
    let y = clustered_caches p d j in
    ap unmarked x.3 ∙ clustered_unmarked x.0.below ∙ ap clustered (h x.0 y.0 x.1 y.1 (sym x.2 ∙ e ∙ y.2)) ∙ sym (ap unmarked y.3 ∙ clustered_unmarked y.0.below)
