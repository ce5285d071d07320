-- In a plan whose caches of a number are taken away none of the number is left, and in a flat one the sites of other numbers are as they were.
use Rattle.std.proofs.Common.{◌≡◌, ◌⊎◌, inl, inr, ℕ, ◌||◌, Bool, true, false, List, [], ◌∷◌, ◌++◌, refl, sym, ap, ap₂, ◌∙◌, subst, append-nil, append_assoc, eqb-true, eq-eqb}
use Rattle.std.proofs.lemmas.Bool.{and_parts}
use Rattle.plan_tree.specs.Rose.{Roses, rose, no_roses, more}
use Rattle.plan_ir.specs.Plans.{Op, cache, Plan}
use Rattle.plan_meaning.specs.Caches.{CacheOf, IsCacheOf, caches, caches_in, own_cache}
use Rattle.plan_meaning.specs.PlanAt.{one_plan}
use Rattle.plan_meaning.specs.Steps.{IsValid}
use Rattle.plan_meaning.specs.Typing.{AllValid}
use Rattle.plan_pruned.proofs.CachesPruned.{alone, first_of as front_in, rest_of as back_in}
use Rattle.plan_order_laws.specs.CacheSites.{CacheSite, cache_sites, own_site}
use Rattle.plan_order_laws.specs.Handled.{dropped_if, is_cache, is_near, is_passing, is_place, pruned_if, removed, removed_in, starts}
use Rattle.plan_order_laws.specs.CacheStates.{IsFlat, Free}
use Rattle.plan_meaning.proofs.CacheLists.{split_cache}
use Rattle.plan_order_laws.proofs.FreePlans.{FlatIn, all_free, closed_flat, flat_below, none_sites, nothing, own_same, removed_free}
use Rattle.plan_order_laws.proofs.SharedRemoved.{dropped_caches, pruned_if_caches, removed_from}

abbrev Plans : Type 0
Plans = Roses (Unit {0}) Op

own_not : (id : ℕ) (op : Op) (rs : Plans) (c : CacheOf) → is_cache id op ≡ false → IsCacheOf c (own_cache op rs) → c.id ≡ id → ⊥
own_not id (cache k hits) rs c e (inl q) same = let k_is : k ≡ id = sym (ap (λ (x : CacheOf). x.id) q) ∙ same in no (sym (eq-eqb k id k_is) ∙ e)
  where
    no : true ≡ false → ⊥
    no e = cc
own_not id (cache k hits) rs c e (inr h) same = h
own_not id op rs c e h same = h

own_is : (id : ℕ) (op : Op) (rs : Plans) (c : CacheOf) → is_cache id op ≡ true → IsCacheOf c (own_cache op rs) → c.id ≡ id
own_is id (cache k hits) rs c e (inl q) = ap (λ (x : CacheOf). x.id) q ∙ eqb-true k id e
own_is id (cache k hits) rs c e (inr h) = absurd h
own_is id op rs c e h = absurd h

-- None is left

either_none : (c : CacheOf) (xs ys : List CacheOf) → (IsCacheOf c xs → ⊥) → (IsCacheOf c ys → ⊥) → IsCacheOf c (xs ++ ys) → ⊥
either_none c [] ys f g h = g h
either_none c (x ∷ xs) ys f g (inl e) = f (inl e)
either_none c (x ∷ xs) ys f g (inr h) = either_none c xs ys (λ k. f (inr k)) g h

module _ (id : ℕ) where
  taken : (inner : Bool) (n : Unit {0}) (op : Op) (ts : Plans) → IsValid (rose n op ts) → is_cache id op ≡ true → Free id (caches_in (removed_in id inner ts)) → Free id (caches (dropped_if true op (removed_in id inner ts)))
  taken inner n (cache k hits) (more t no_roses) v e by c h same = by c (front_in (caches (removed id inner t)) [] c h) same
  taken inner n (cache k hits) no_roses v e by c h same = cc
  taken inner n (cache k hits) (more (rose m o us) (more (rose m' o' us') rest)) v e by c h same = cc
  taken inner n op ts v e by c h same = cc

  gone : (inner : Bool) (n : Unit {0}) (op : Op) (ts : Plans) → IsValid (rose n op ts) → Free id (caches_in (removed_in id inner ts)) → Free id (caches (dropped_if (is_cache id op) op (removed_in id inner ts)))
  gone inner n op ts v by = at (is_cache id op) refl
    where
      at : (b : Bool) → is_cache id op ≡ b → Free id (caches (dropped_if b op (removed_in id inner ts)))
      at true e c h same = taken inner n op ts v e by c h same
      at false e c h same = part (split_cache c (own_cache op (removed_in id inner ts)) (caches_in (removed_in id inner ts)) h)
        where
          part : IsCacheOf c (own_cache op (removed_in id inner ts)) ⊎ IsCacheOf c (caches_in (removed_in id inner ts)) → ⊥
          part (inl k) = own_not id op (removed_in id inner ts) c e k same
          part (inr k) = by c k same

  mutual
    pub removed_none : (within : Bool) (p : Plan) → IsValid p → Free id (caches (removed id within p))
    removed_none within (rose n op ts) v c h same =
        let inner = starts id within op ts in
        gone inner n op ts v (λ d k q. removed_none_in (starts id within op ts) ts v.1 d k q) c
        (pruned_if_caches id inner (dropped_if (is_cache id op) op (removed_in id inner ts)) c h) same

    removed_none_in : (within : Bool) (ts : Plans) → AllValid ts → Free id (caches_in (removed_in id within ts))
    removed_none_in within no_roses v c h same = h
    removed_none_in within (more (rose n op us) rest) v c h same =
        either_none c (caches (removed id within (rose n op us))) (caches_in (removed_in id within rest)) (λ k. removed_none within (rose n op us) (v.0, v.1) c k same) (λ k. removed_none_in within rest v.2 c k same) h

  -- no site of the number is left
  pub removed_sites : (p : Plan) → IsValid p → cache_sites id [] (more (removed id false p) no_roses) ≡ []
  removed_sites p v = none_sites id [] (more (removed id false p) no_roses) (λ c h same. removed_none false p v c (alone (caches (removed id false p)) c h) same)

-- The sites of other numbers

either_true : (a b : Bool) → (a || b) ≡ true → (a ≡ true) ⊎ (b ≡ true)
either_true true b e = inl refl
either_true false b e = inr e

passing_own : (op : Op) (ts : Plans) → is_passing op ≡ true → own_cache op ts ≡ []
passing_own (cache k hits) ts e = cc
passing_own op ts e = refl

module _ (id k : ℕ) (differ : id ≡ k → ⊥) where
  -- where pruning starts, all caches are of the number that is taken away
  place_ids : (ts : Plans) → is_place id ts ≡ true → AllValid ts → FlatIn ts → (c : CacheOf) → IsCacheOf c (caches_in ts) → c.id ≡ id
  place_ids (more (rose n (cache j hits) us) no_roses) e v f c (inl q) = ap (λ (x : CacheOf). x.id) q ∙ eqb-true j id e
  place_ids (more (rose n (cache j hits) us) no_roses) e v f c (inr h) =
      absurd (nothing (caches_in us) (flat_below n j hits us (v.0, v.1) (λ d g. f d (front_in (caches (rose n (cache j hits) us)) [] d g))) c (alone (caches_in us) c h))
  place_ids (more (rose n op us) no_roses) e v f c h = cc
  place_ids (more (rose n op us) (more q rest)) e v f c h = cc
  place_ids no_roses e v f c h = cc

  -- what passes rows on has the caches of its inputs
  passing_low : (n : Unit {0}) (op : Op) (us : Plans) → is_passing op ≡ true → (c : CacheOf) → IsCacheOf c (caches (rose n op us)) → IsCacheOf c (caches_in us)
  passing_low n op us e c h = subst (λ (cs : List CacheOf). IsCacheOf c (cs ++ caches_in us)) (passing_own op us e) h

  flat_low : (n : Unit {0}) (op : Op) (us : Plans) → IsFlat (rose n op us) → FlatIn us
  flat_low n op us f d g = f d (back_in (own_cache op us) (caches_in us) d g)

  near_ids : (ts : Plans) → is_near id ts ≡ true → AllValid ts → FlatIn ts → (c : CacheOf) → IsCacheOf c (caches_in ts) → c.id ≡ id
  near_ids (more (rose n op us) no_roses) e v f c h =
      let q = and_parts (is_passing op) (is_place id us) e in
      place_ids us q.1 v.1 (flat_low n op us (λ d g. f d (front_in (caches (rose n op us)) [] d g))) c (passing_low n op us q.0 c (alone (caches (rose n op us)) c h))
  near_ids (more (rose n op us) (more q rest)) e v f c h = cc
  near_ids no_roses e v f c h = cc

  start_ids : (n : Unit {0}) (op : Op) (ts : Plans) → starts id false op ts ≡ true → IsValid (rose n op ts) → IsFlat (rose n op ts) → (c : CacheOf) → IsCacheOf c (caches (rose n op ts)) → c.id ≡ id
  start_ids n op ts e v f c h = at (either_true (is_place id ts) (is_near id ts) q.1)
    where
      q : (is_passing op ≡ true) × ((is_place id ts || is_near id ts) ≡ true)
      q = and_parts (is_passing op) (is_place id ts || is_near id ts) e

      at : (is_place id ts ≡ true) ⊎ (is_near id ts ≡ true) → c.id ≡ id
      at (inl p) = place_ids ts p v.1 (flat_low n op ts f) c (passing_low n op ts q.0 c h)
      at (inr p) = near_ids ts p v.1 (flat_low n op ts f) c (passing_low n op ts q.0 c h)

  -- no cache of the other number, where all are of the number
  by_ids : (cs : List CacheOf) → ((c : CacheOf) → IsCacheOf c cs → c.id ≡ id) → Free k cs
  by_ids cs f c h same = differ (sym (f c h) ∙ same)

  closed_free : (op : Op) (rs : Plans) → is_cache id op ≡ true → caches_in rs ≡ [] → Free k (own_cache op rs ++ caches_in rs)
  closed_free op rs e none c h same = at (split_cache c (own_cache op rs) (caches_in rs) h)
    where
      at : IsCacheOf c (own_cache op rs) ⊎ IsCacheOf c (caches_in rs) → ⊥
      at (inl q) = differ (sym (own_is id op rs c e q) ∙ same)
      at (inr q) = nothing (caches_in rs) none c q

  free_one : (p : Plan) → Free k (caches p) → Free k (caches_in (more p no_roses))
  free_one p f c h same = f c (alone (caches p) c h) same

  node_removed : (above : List Op) (n : Unit {0}) (op : Op) (ts : Plans) → IsValid (rose n op ts) → IsFlat (rose n op ts) → cache_sites k (op ∷ above) (removed_in id false ts) ≡ cache_sites k (op ∷ above) ts
      → cache_sites k above (more (removed id false (rose n op ts)) no_roses) ≡ cache_sites k above (more (rose n op ts) no_roses)
  node_removed above n op ts v f by = at (starts id false op ts) refl
    where
      p : Plan
      p = rose n op ts

      kept : (b : Bool) → is_cache id op ≡ b → cache_sites k above (more (dropped_if b op (removed_in id false ts)) no_roses) ≡ cache_sites k above (more (rose n op ts) no_roses)
      kept true e =
          let none = closed_flat id n op ts e v f in
          let same_plans = removed_free id false ts (all_free id (caches_in ts) none) in
          none_sites k above (more (dropped_if true op (removed_in id false ts)) no_roses)
          (free_one (dropped_if true op (removed_in id false ts)) (λ c h same. closed_free op (removed_in id false ts) e (ap caches_in same_plans ∙ none) c (dropped_caches id true op (removed_in id false ts) c h) same))
          ∙ sym (none_sites k above (more (rose n op ts) no_roses) (free_one (rose n op ts) (closed_free op ts e none)))
      kept false e =
          ap₂ (λ (x y : List CacheSite). x ++ y)
          (own_same k above op (removed_in id false ts) ts (λ q. ap one_plan (removed_free id false ts (all_free id (caches_in ts) (closed_flat k n op ts q v f)))))
          (ap (λ (x : List CacheSite). x ++ []) by)

      at : (b : Bool) → starts id false op ts ≡ b → cache_sites k above (more (removed id false (rose n op ts)) no_roses) ≡ cache_sites k above (more (rose n op ts) no_roses)
      at true e =
          none_sites k above (more (removed id false (rose n op ts)) no_roses)
          (free_one (removed id false (rose n op ts)) (by_ids (caches (removed id false (rose n op ts))) (λ c h. let x = removed_from id false (rose n op ts) c h in x.id ∙ start_ids n op ts e v f x.given x.there)))
          ∙ sym (none_sites k above (more (rose n op ts) no_roses) (free_one (rose n op ts) (by_ids (caches (rose n op ts)) (start_ids n op ts e v f))))
      at false e =
          ap (λ (b : Bool). cache_sites k above (more (pruned_if b (dropped_if (is_cache id op) op (removed_in id b ts))) no_roses)) e
          ∙ kept (is_cache id op) refl

  sites_more : (above : List Op) (p : Plan) (rest : Plans) → cache_sites k above (more p rest) ≡ cache_sites k above (more p no_roses) ++ cache_sites k above rest
  sites_more above (rose n op ts) rest =
      let own = own_site k above op ts in
      let below = cache_sites k (op ∷ above) ts in
      sym (append_assoc own below (cache_sites k above rest))
      ∙ ap (λ (x : List CacheSite). (own ++ x) ++ cache_sites k above rest) (sym (append-nil below))

  others_in : (o : Op) (above : List Op) (ts : Plans) → AllValid ts → FlatIn ts → cache_sites k (o ∷ above) (removed_in id false ts) ≡ cache_sites k (o ∷ above) ts
  others_in o above no_roses v f = refl
  others_in o above (more (rose n op us) rest) v f =
      let here : IsFlat (rose n op us) = λ c h. f c (front_in (caches (rose n op us)) (caches_in rest) c h) in
      sites_more (o ∷ above) (removed id false (rose n op us)) (removed_in id false rest)
      ∙ ap₂ (λ (x y : List CacheSite). x ++ y)
      (node_removed (o ∷ above) n op us (v.0, v.1) here (others_in op (o ∷ above) us v.1 (flat_low n op us here)))
      (others_in o above rest v.2 (λ c h. f c (back_in (caches (rose n op us)) (caches_in rest) c h)))
      ∙ sym (sites_more (o ∷ above) (rose n op us) rest)

  -- they are as they were
  pub others_removed : (p : Plan) → IsValid p → IsFlat p → cache_sites k [] (more (removed id false p) no_roses) ≡ cache_sites k [] (more p no_roses)
  others_removed (rose n op ts) v f = node_removed [] n op ts v f (others_in op [] ts v.1 (flat_low n op ts f))
