-- Caches of one number stand over alike plans, where they did, once those of another are taken away.
use Rattle.std.proofs.Common.{◌≡◌, inl, inr, ℕ, ◌&&◌, ◌||◌, Bool, true, false, not, [], ◌∷◌, ◌++◌, refl, sym, ap, ap₂, ◌∙◌}
use Rattle.plan_tree.specs.Rose.{Roses, rose, no_roses, more}
use Rattle.plan_ir.specs.Plans.{Op, scan, union, cache, Plan}
use Rattle.plan_meaning.specs.Caches.{AreShared, CacheOf, IsCacheOf, caches, caches_in, own_cache}
use Rattle.plan_meaning.specs.Marks.{unmarked, unmarked_all, unmarked_op}
use Rattle.plan_meaning.specs.PlanAt.{one_plan}
use Rattle.plan_pruned.proofs.AlikePruned.{one_before, pruned_same}
use Rattle.plan_pruned.proofs.CachesPruned.{pruned_caches}
use Rattle.plan_order_laws.specs.Handled.{dropped_if, is_cache, is_near, is_passing, is_place, pruned_if, removed, removed_in, starts}
use Rattle.plan_pass_laws.specs.CachesLeft.{CacheMade}
use Rattle.plan_meaning.proofs.CacheLists.{back_cache, front_cache}
use Rattle.plan_pass_laws.proofs.CachesLeft.{back_made, either_made, stay_shared}
use Rattle.plan_order_laws.specs.CacheStates.{below_removed}

abbrev Plans : Type 0
Plans = Roses (Unit {0}) Op

-- Taking caches away looks at no rechunk mark

pub cache_same : (id : ℕ) (op : Op) → is_cache id (unmarked_op op) ≡ is_cache id op
cache_same id (scan sources info hive predicate output kind options) = refl
cache_same id (union options) = refl
cache_same id op = refl

passing_same : (op : Op) → is_passing (unmarked_op op) ≡ is_passing op
passing_same (scan sources info hive predicate output kind options) = refl
passing_same (union options) = refl
passing_same op = refl

place_same : (id : ℕ) (ts : Plans) → is_place id (unmarked_all ts) ≡ is_place id ts
place_same id no_roses = refl
place_same id (more (rose n op us) no_roses) = cache_same id op
place_same id (more (rose n op us) (more (rose m o vs) rest)) = refl

near_same : (id : ℕ) (ts : Plans) → is_near id (unmarked_all ts) ≡ is_near id ts
near_same id no_roses = refl
near_same id (more (rose n op us) no_roses) = ap₂ (λ (a b : Bool). a && b) (passing_same op) (place_same id us)
near_same id (more (rose n op us) (more (rose m o vs) rest)) = refl

starts_same : (id : ℕ) (within : Bool) (op : Op) (ts : Plans) → starts id within (unmarked_op op) (unmarked_all ts) ≡ starts id within op ts
starts_same id within op ts = ap (λ (b : Bool). not within && b) (ap₂ (λ (a b : Bool). a && b) (passing_same op) (ap₂ (λ (a b : Bool). a || b) (place_same id ts) (near_same id ts)))

drop_same : (b : Bool) (op : Op) (rs : Plans) → dropped_if b (unmarked_op op) (unmarked_all rs) ≡ unmarked (dropped_if b op rs)
drop_same false op rs = refl
drop_same true op no_roses = refl
drop_same true op (more (rose n o us) no_roses) = refl
drop_same true op (more (rose n o us) (more (rose m q vs) rest)) = refl

prune_same : (b : Bool) (p : Plan) → pruned_if b (unmarked p) ≡ unmarked (pruned_if b p)
prune_same false p = refl
prune_same true p = pruned_same true [] p

mutual
  pub removed_same : (id : ℕ) (within : Bool) (p : Plan) → removed id within (unmarked p) ≡ unmarked (removed id within p)
  removed_same id within (rose n op ts) =
      let inner = starts id within op ts in
      ap (λ (b : Bool). pruned_if b (dropped_if (is_cache id (unmarked_op op)) (unmarked_op op) (removed_in id b (unmarked_all ts)))) (starts_same id within op ts)
      ∙ ap (pruned_if inner)
      (ap₂ (λ (b : Bool) (rs : Plans). dropped_if b (unmarked_op op) rs) (cache_same id op) (removed_same_in id inner ts)
      ∙ drop_same (is_cache id op) op (removed_in id inner ts))
      ∙ prune_same inner (dropped_if (is_cache id op) op (removed_in id inner ts))

  removed_same_in : (id : ℕ) (within : Bool) (ts : Plans) → removed_in id within (unmarked_all ts) ≡ unmarked_all (removed_in id within ts)
  removed_same_in id within no_roses = refl
  removed_same_in id within (more (rose n op us) rest) =
      ap₂ (λ (p : Plan) (ps : Plans). more p ps) (removed_same id within (rose n op us)) (removed_same_in id within rest)
      ∙ sym (one_before (removed id within (rose n op us)) (removed_in id within rest))

-- Each cache that is left is one that was there

module _ (id : ℕ) where
  pub pruned_if_caches : (b : Bool) (q : Plan) (c : CacheOf) → IsCacheOf c (caches (pruned_if b q)) → IsCacheOf c (caches q)
  pruned_if_caches false q c h = h
  pruned_if_caches true q c h = pruned_caches true [] q c h

  pub dropped_caches : (b : Bool) (op : Op) (rs : Plans) (c : CacheOf) → IsCacheOf c (caches (dropped_if b op rs)) → IsCacheOf c (own_cache op rs ++ caches_in rs)
  dropped_caches false op rs c h = h
  dropped_caches true op no_roses c h = h
  dropped_caches true op (more r no_roses) c h = back_cache c (own_cache op (more r no_roses)) (caches r ++ []) (front_cache c (caches r) [] h)
  dropped_caches true op (more r (more q rs)) c h = h

  closed : (within : Bool) (k hits : ℕ) (ts : Plans) → starts id within (cache k hits) ts ≡ false
  closed true k hits ts = refl
  closed false k hits ts = refl

  one_removed : (ts : Plans) → one_plan (removed_in id false ts) ≡ removed id false (one_plan ts)
  one_removed no_roses = refl
  one_removed (more p rest) = refl

  node_from : (within : Bool) (op : Op) (ts : Plans) (c : CacheOf) → ((e : CacheOf) → IsCacheOf e (caches_in (removed_in id (starts id within op ts) ts)) → CacheMade (below_removed id) e (caches_in ts))
      → IsCacheOf c (own_cache op (removed_in id (starts id within op ts) ts) ++ caches_in (removed_in id (starts id within op ts) ts)) → CacheMade (below_removed id) c (own_cache op ts ++ caches_in ts)
  node_from within (cache k hits) ts c by (inl e) = record {
    given = record { id = k; below = one_plan ts };
    there = inl refl;
    id = ap (λ (x : CacheOf). x.id) e;
    below = ap (λ (x : CacheOf). x.below) e ∙ ap (λ (b : Bool). one_plan (removed_in id b ts)) (closed within k hits ts) ∙ one_removed ts;
  }
  node_from within (cache k hits) ts c by (inr h) = back_made (below_removed id) c (record { id = k; below = one_plan ts } ∷ []) (caches_in ts) (by c h)
  node_from within op ts c by h = by c h

  mutual
    pub removed_from : (within : Bool) (p : Plan) (c : CacheOf) → IsCacheOf c (caches (removed id within p)) → CacheMade (below_removed id) c (caches p)
    removed_from within (rose n op ts) c h =
        let inner = starts id within op ts in
        node_from within op ts c (λ e k. removed_from_in (starts id within op ts) ts e k)
        (dropped_caches (is_cache id op) op (removed_in id inner ts) c (pruned_if_caches inner (dropped_if (is_cache id op) op (removed_in id inner ts)) c h))

    pub removed_from_in : (within : Bool) (ts : Plans) (c : CacheOf) → IsCacheOf c (caches_in (removed_in id within ts)) → CacheMade (below_removed id) c (caches_in ts)
    removed_from_in within no_roses c h = absurd h
    removed_from_in within (more p rest) c h = either_made (below_removed id) c (caches (removed id within p)) (caches_in (removed_in id within rest)) (caches p) (caches_in rest) (λ k. removed_from within p c k) (λ k. removed_from_in within rest c k) h

  pub shared_removed : (within : Bool) (p : Plan) → AreShared p → AreShared (removed id within p)
  shared_removed within p h = stay_shared (below_removed id) (removed id within p) p (λ c i. removed_from within p c i) (λ k x y e. sym (removed_same id false x) ∙ ap (removed id false) e ∙ removed_same id false y) h
