-- Caches of one number stand over alike plans, where they did, once order demands are set: what is below a cache is always observed.
use Rattle.std.proofs.Common.{◌≡◌, ℕ, inl, inr, Bool, true, false, List, [], ◌∷◌, ◌++◌, refl, sym, ap, ap₂, ◌∙◌}
use Rattle.plan_tree.specs.Rose.{Roses, rose, no_roses, more}
use Rattle.plan_ir.specs.Plans.{Op, scan, sort, union, distinct, cache, Plan}
use Rattle.plan_meaning.specs.Caches.{AreShared, CacheOf, IsCacheOf, caches, caches_in, own_cache}
use Rattle.plan_meaning.specs.Marks.{unmarked, unmarked_all, unmarked_op}
use Rattle.plan_meaning.specs.PlanAt.{one_plan}
use Rattle.plan_pass_laws.specs.CachesLeft.{CacheMade}
use Rattle.plan_pass_laws.proofs.CachesLeft.{back_made, either_made, stay_shared}
use Rattle.plan_order_laws.specs.Demands.{demands, ordered, ordered_in, with_order}

abbrev Plans : Type 0
Plans = Roses (Unit {0}) Op

-- order demands look at no rechunk mark

demands_same : (d : Bool) (op : Op) → demands d (unmarked_op op) ≡ demands d op
demands_same d (scan sources info hive predicate output kind options) = refl
demands_same d (union options) = refl
demands_same d op = refl

with_same : (d : Bool) (op : Op) (ts : Plans) → unmarked (with_order d op ts) ≡ with_order d (unmarked_op op) (unmarked_all ts)
with_same true (sort keys part options) ts = refl
with_same false (sort keys part options) no_roses = refl
with_same false (sort keys part options) (more (rose n op us) rest) = refl
with_same d (scan sources info hive predicate output kind options) ts = refl
with_same d (union options) ts = refl
with_same d (distinct options) ts = refl
with_same d op ts = refl

one_more : (p : Plan) (ts : Plans) → unmarked_all (more p ts) ≡ more (unmarked p) (unmarked_all ts)
one_more (rose n op us) ts = refl

mutual
  pub ordered_unmarked : (d : Bool) (p : Plan) → unmarked (ordered d p) ≡ ordered d (unmarked p)
  ordered_unmarked d (rose n op ts) =
      with_same d op (ordered_in (demands d op) ts)
      ∙ ap (with_order d (unmarked_op op)) (in_unmarked (demands d op) ts ∙ ap (λ (b : Bool). ordered_in b (unmarked_all ts)) (sym (demands_same d op)))

  in_unmarked : (d : Bool) (ts : Plans) → unmarked_all (ordered_in d ts) ≡ ordered_in d (unmarked_all ts)
  in_unmarked d no_roses = refl
  in_unmarked d (more (rose n op us) no_roses) = one_more (ordered d (rose n op us)) no_roses ∙ ap (λ (p : Plan). more p no_roses) (ordered_unmarked d (rose n op us))
  in_unmarked d (more (rose n op us) (more (rose m o vs) rest)) =
      one_more (ordered true (rose n op us)) (ordered_in d (more (rose m o vs) rest))
      ∙ ap₂ (λ (p : Plan) (ps : Plans). more p ps) (ordered_unmarked true (rose n op us)) (in_unmarked d (more (rose m o vs) rest))

-- each cache is one that was there, over what was below it with its order demanded

abbrev demanded : ℕ → Plan → Plan
demanded id p = ordered true p

abbrev From : CacheOf → List CacheOf → Type 0
From c cs = CacheMade demanded c cs

one_ordered : (ts : Plans) → one_plan (ordered_in true ts) ≡ ordered true (one_plan ts)
one_ordered no_roses = refl
one_ordered (more p no_roses) = refl
one_ordered (more p (more q rest)) = refl

-- a node over inputs whose caches are from others
node_from : (d : Bool) (op : Op) (ts : Plans) (c : CacheOf) → ((e : CacheOf) → IsCacheOf e (caches_in (ordered_in (demands d op) ts)) → From e (caches_in ts)) → IsCacheOf c (caches (with_order d op (ordered_in (demands d op) ts))) → From c (own_cache op ts ++ caches_in ts)
node_from d (cache id hits) ts c by (inl e) = record { given = record { id = id; below = one_plan ts }; there = inl refl; id = ap (λ (x : CacheOf). x.id) e; below = ap (λ (x : CacheOf). x.below) e ∙ one_ordered ts }
node_from d (cache id hits) ts c by (inr h) = back_made demanded c (record { id = id; below = one_plan ts } ∷ []) (caches_in ts) (by c h)
node_from true (sort keys part options) ts c by h = by c h
node_from false (sort keys part options) ts c by h = by c (at (ordered_in false ts) h)
  where
    at : (us : Plans) → IsCacheOf c (caches (one_plan us)) → IsCacheOf c (caches_in us)
    at no_roses h = absurd h
    at (more p rest) h = front (caches p) h
      where
        front : (zs : List CacheOf) → IsCacheOf c zs → IsCacheOf c (zs ++ caches_in rest)
        front [] h = absurd h
        front (z ∷ zs) (inl e) = inl e
        front (z ∷ zs) (inr k) = inr (front zs k)
node_from d (union options) ts c by h = by c h
node_from d (distinct options) ts c by h = by c h
node_from d op ts c by h = by c h

mutual
  pub caches_from : (d : Bool) (p : Plan) (c : CacheOf) → IsCacheOf c (caches (ordered d p)) → From c (caches p)
  caches_from d (rose n op ts) c h = node_from d op ts c (λ e k. all_from (demands d op) ts e k) h

  all_from : (d : Bool) (ts : Plans) (c : CacheOf) → IsCacheOf c (caches_in (ordered_in d ts)) → From c (caches_in ts)
  all_from d no_roses c h = absurd h
  all_from d (more p no_roses) c h = either_made demanded c (caches (ordered d p)) [] (caches p) [] (λ k. caches_from d p c k) (λ k. absurd k) h
  all_from d (more p (more q rest)) c h = either_made demanded c (caches (ordered true p)) (caches_in (ordered_in d (more q rest))) (caches p) (caches_in (more q rest)) (λ k. caches_from true p c k) (λ k. all_from d (more q rest) c k) h

pub shared_ordered : (d : Bool) (p : Plan) → AreShared p → AreShared (ordered d p)
shared_ordered d p = stay_shared demanded (ordered d p) p (caches_from d p) (λ id x y e. ordered_unmarked true x ∙ ap (ordered true) e ∙ sym (ordered_unmarked true y))
