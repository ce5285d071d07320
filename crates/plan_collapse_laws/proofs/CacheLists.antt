-- Lists of caches, and caches whose plans became others.
use Rattle.std.proofs.Common.{◌++◌, List, [], ◌∷◌, ◌⊎◌, inl, inr, ⊎_elim}
use Rattle.plan_ir.specs.Plans.{Plan}
use Rattle.plan_meaning.specs.Caches.{CacheOf, IsCacheOf}
use Rattle.plan_collapse_laws.specs.Cached.{Became}

pub either_cache : (c : CacheOf) (ds es : List CacheOf) → IsCacheOf c (ds ++ es) → IsCacheOf c ds ⊎ IsCacheOf c es
either_cache c [] es i = inr i
either_cache c (d ∷ ds) es (inl q) = inl (inl q)
either_cache c (d ∷ ds) es (inr i) = ⊎_elim (λ j. inl (inr j)) (λ j. inr j) (either_cache c ds es i)

pub last_cache : (c : CacheOf) (ds : List CacheOf) → IsCacheOf c (ds ++ []) → IsCacheOf c ds
last_cache c ds i = ⊎_elim (λ j. j) (λ j. absurd j) (either_cache c ds [] i)

pub cache_left : (c : CacheOf) (ds es : List CacheOf) → IsCacheOf c ds → IsCacheOf c (ds ++ es)
cache_left c [] es i = absurd i
cache_left c (d ∷ ds) es (inl q) = inl q
cache_left c (d ∷ ds) es (inr i) = inr (cache_left c ds es i)

pub cache_right : (c : CacheOf) (ds es : List CacheOf) → IsCacheOf c es → IsCacheOf c (ds ++ es)
cache_right c [] es i = i
cache_right c (d ∷ ds) es i = inr (cache_right c ds es i)

module _ (now : Plan → Plan) where
  pub became_left : (c : CacheOf) (ds es : List CacheOf) → Became now c ds → Became now c (ds ++ es)
  became_left c ds es w = (w.0, cache_left w.0 ds es w.1, w.2, w.3)

  pub became_right : (c : CacheOf) (ds es : List CacheOf) → Became now c es → Became now c (ds ++ es)
  became_right c ds es w = (w.0, cache_right w.0 ds es w.1, w.2, w.3)
