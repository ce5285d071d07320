-- A flat plan stays flat when the caches of a number are handled.
use Rattle.std.proofs.Common.{◌≡◌, ◌⊎◌, inl, inr, ℕ, ◌==◌, cond, Bool, true, false, List, [], ◌∷◌, Option, refl, ap, ◌∙◌}
use Rattle.plan_tree.specs.Rose.{Roses, rose}
use Rattle.plan_expr.specs.Leaves.{Name}
use Rattle.plan_ir.specs.Plans.{Op, cache, Plan}
use Rattle.plan_meaning.specs.Caches.{CacheOf, IsCacheOf, caches, caches_in, own_cache}
use Rattle.plan_meaning.specs.PlanAt.{one_plan}
use Rattle.plan_pruned.proofs.CachesPruned.{rest_of as back_in}
use Rattle.plan_order_laws.specs.CacheSites.{renewed}
use Rattle.plan_order_laws.specs.Handled.{handled, narrowed, narrowed_in, removed}
use Rattle.plan_order_laws.specs.CacheStates.{IsFlat, below_narrowed}
use Rattle.plan_meaning.proofs.CacheLists.{split_cache}
use Rattle.plan_order_laws.proofs.FreePlans.{FlatIn, nothing}
use Rattle.plan_order_laws.proofs.SharedNarrowed.{narrowed_from, narrowed_from_in, one_left, renewed_caches}
use Rattle.plan_order_laws.proofs.SharedRemoved.{removed_from}

abbrev Plans : Type 0
Plans = Roses (Unit {0}) Op

empty : (cs : List CacheOf) → ((c : CacheOf) → IsCacheOf c cs → ⊥) → cs ≡ []
empty [] none = refl
empty (c ∷ cs) none = absurd (none c (inl refl))

removed_flat : (id : ℕ) (within : Bool) (p : Plan) → IsFlat p → IsFlat (removed id within p)
removed_flat id within p f c h =
    let x = removed_from id within p c h in
    ap caches x.below ∙ empty (caches (removed id false x.given.below)) (λ d k. let y = removed_from id false x.given.below d k in nothing (caches x.given.below) (f x.given x.there) y.given y.there)

module _ (id : ℕ) (read : Option (List Name)) where
  none_narrowed : (p : Plan) → caches p ≡ [] → caches (narrowed id read true p) ≡ []
  none_narrowed p e = empty (caches (narrowed id read true p)) (λ d k. let y = narrowed_from id read p d k in nothing (caches p) e y.given y.there)

  none_below : (k : ℕ) (p : Plan) → caches p ≡ [] → caches (below_narrowed id read k p) ≡ []
  none_below k p e = at (k == id)
    where
      inner : caches (narrowed id read true p) ≡ []
      inner = none_narrowed p e

      at : (b : Bool) → caches (cond b (renewed read (narrowed id read true p)) (narrowed id read true p)) ≡ []
      at true = empty (caches (renewed read (narrowed id read true p))) (λ d h. nothing (caches (narrowed id read true p)) inner d (renewed_caches id read (narrowed id read true p) d h))
      at false = inner

  inner_flat : (ts : Plans) → FlatIn ts → FlatIn (narrowed_in id read ts)
  inner_flat ts f c h =
      let x = narrowed_from_in id read ts c h in
      ap caches x.below ∙ none_below x.given.id x.given.below (f x.given x.there)

  own_flat : (n : Unit {0}) (op : Op) (ts : Plans) → IsFlat (rose n op ts) → (c : CacheOf) → IsCacheOf c (own_cache op (narrowed_in id read ts)) → caches c.below ≡ []
  own_flat n (cache k hits) ts f c (inl e) =
      ap (λ (x : CacheOf). caches x.below) e ∙ ap caches (one_left id read false ts) ∙ none_narrowed (one_plan ts) (f (record { id = k; below = one_plan ts }) (inl refl))
  own_flat n (cache k hits) ts f c (inr h) = absurd h
  own_flat n op ts f c h = absurd h

  narrowed_flat : (p : Plan) → IsFlat p → IsFlat (narrowed id read false p)
  narrowed_flat (rose n op ts) f c h = at (split_cache c (own_cache op (narrowed_in id read ts)) (caches_in (narrowed_in id read ts)) h)
    where
      at : IsCacheOf c (own_cache op (narrowed_in id read ts)) ⊎ IsCacheOf c (caches_in (narrowed_in id read ts)) → caches c.below ≡ []
      at (inl k) = own_flat n op ts f c k
      at (inr k) = inner_flat ts (λ d g. f d (back_in (own_cache op ts) (caches_in ts) d g)) c k

pub handled_flat : (differ : Bool) (id : ℕ) (p : Plan) → IsFlat p → IsFlat (handled differ id p)
handled_flat true id p f = removed_flat id false p f
handled_flat false id p f = narrowed_flat id _ p f
