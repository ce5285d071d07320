-- Caches of lists one after another.
use Rattle.std.proofs.Common.{◌⊎◌, inl, inr, List, [], ◌∷◌, ◌++◌}
use Rattle.plan_meaning.specs.Caches.{CacheOf, IsCacheOf}

pub front_cache : (c : CacheOf) (xs ys : List CacheOf) → IsCacheOf c xs → IsCacheOf c (xs ++ ys)
front_cache c [] ys h = absurd h
front_cache c (x ∷ xs) ys (inl e) = inl e
front_cache c (x ∷ xs) ys (inr h) = inr (front_cache c xs ys h)

pub back_cache : (c : CacheOf) (xs ys : List CacheOf) → IsCacheOf c ys → IsCacheOf c (xs ++ ys)
back_cache c [] ys h = h
back_cache c (x ∷ xs) ys h = inr (back_cache c xs ys h)

-- each is of one of the lists
pub split_cache : (c : CacheOf) (xs ys : List CacheOf) → IsCacheOf c (xs ++ ys) → IsCacheOf c xs ⊎ IsCacheOf c ys
split_cache c [] ys h = inr h
split_cache c (x ∷ xs) ys (inl e) = inl (inl e)
split_cache c (x ∷ xs) ys (inr h) = at (split_cache c xs ys h)
  where
    at : IsCacheOf c xs ⊎ IsCacheOf c ys → IsCacheOf c (x ∷ xs) ⊎ IsCacheOf c ys
    at (inl k) = inl (inr k)
    at (inr k) = inr k
