-- What stands below a cache of a valid plan has fewer nodes than the plan, so no cache of a number stands below another over alike plans.
use Rattle.std.proofs.Common.{◌≡◌, ◌⊎◌, inl, inr, ℕ, ◌+◌, ◌<◌, ◌≤◌, refl, sym, ap, ap₂, ◌∙◌, arith}
use Rattle.plan_tree.specs.Rose.{Roses, rose, no_roses, more, size}
use Rattle.plan_ir.specs.Plans.{Op, cache, Plan}
use Rattle.plan_meaning.specs.Caches.{CacheOf, IsCacheOf, caches, caches_in, own_cache}
use Rattle.plan_meaning.specs.Marks.{unmarked, unmarked_all}
use Rattle.plan_meaning.specs.Scans.{nodes}
use Rattle.plan_meaning.specs.Steps.{IsValid}
use Rattle.plan_meaning.specs.Typing.{AllHold, AllValid, checks, schemas}
use Rattle.plan_meaning.proofs.CacheLists.{split_cache}

abbrev Plans : Type 0
Plans = Roses (Unit {0}) Op

size_same : (ts : Plans) → size (unmarked_all ts) ≡ size ts
size_same no_roses = refl
size_same (more (rose n op us) rest) = ap₂ (λ (a b : ℕ). 1 + a + b) (size_same us) (size_same rest)

nodes_same : (p : Plan) → nodes (unmarked p) ≡ nodes p
nodes_same (rose n op ts) = size_same (more (rose n op ts) no_roses)

size_more : (p : Plan) (rest : Plans) → size (more p rest) ≡ nodes p + size rest
size_more (rose n op ts) rest = omega arith

own_smaller : (op : Op) (ts : Plans) (c : CacheOf) → AllHold (checks op (schemas ts)) → IsCacheOf c (own_cache op ts) → nodes c.below ≤ size ts
own_smaller (cache k hits) (more (rose n op us) no_roses) c good (inl e) = let is = ap (λ (x : CacheOf). nodes x.below) e in omega (arith, is)
own_smaller (cache k hits) (more (rose n op us) no_roses) c good (inr h) = absurd h
own_smaller (cache k hits) no_roses c good h = cc
own_smaller (cache k hits) (more (rose n op us) (more (rose m o vs) rest)) c good h = cc
own_smaller op ts c good h = absurd h

mutual
  pub smaller : (p : Plan) (c : CacheOf) → IsValid p → IsCacheOf c (caches p) → nodes c.below < nodes p
  smaller (rose n op ts) c v h = at (split_cache c (own_cache op ts) (caches_in ts) h) (λ k. smaller_in ts c v.1 k)
    where
      at : IsCacheOf c (own_cache op ts) ⊎ IsCacheOf c (caches_in ts) → (IsCacheOf c (caches_in ts) → nodes c.below < size ts) → nodes c.below < nodes (rose n op ts)
      at (inl k) by = let e = own_smaller op ts c v.0 k in omega (arith, e)
      at (inr k) by = let e = by k in omega (arith, e)

  smaller_in : (ts : Plans) (c : CacheOf) → AllValid ts → IsCacheOf c (caches_in ts) → nodes c.below < size ts
  smaller_in no_roses c v h = absurd h
  smaller_in (more (rose n op us) rest) c v h = at (split_cache c (caches (rose n op us)) (caches_in rest) h) (λ k. smaller (rose n op us) c (v.0, v.1) k) (λ k. smaller_in rest c v.2 k)
    where
      at : IsCacheOf c (caches (rose n op us)) ⊎ IsCacheOf c (caches_in rest) → (IsCacheOf c (caches (rose n op us)) → nodes c.below < nodes (rose n op us)) → (IsCacheOf c (caches_in rest) → nodes c.below < size rest) → nodes c.below < size (more (rose n op us) rest)
      at (inl k) f g = let e = f k in omega (arith, e)
      at (inr k) f g = let e = g k in omega (arith, e)

-- a cache isn't alike one below it
pub never_below : (p : Plan) (c : CacheOf) → IsValid p → IsCacheOf c (caches p) → unmarked p ≡ unmarked c.below → ⊥
never_below p c v h e =
    let lt = smaller p c v h in
    let same : nodes p ≡ nodes c.below = sym (nodes_same p) ∙ ap nodes e ∙ nodes_same c.below in
    absurd (omega (arith, lt, same))
