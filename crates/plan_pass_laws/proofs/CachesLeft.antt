-- Caches that are left of lists one after another, and caches that stay shared.
use Rattle.std.proofs.Common.{◌≡◌, ◌⊎◌, inl, inr, ℕ, List, ◌++◌, sym, ap, ◌∙◌}
use Rattle.plan_ir.specs.Plans.{Plan}
use Rattle.plan_meaning.specs.Caches.{AreShared, CacheOf, IsCacheOf, caches}
use Rattle.plan_meaning.specs.Marks.{unmarked}
use Rattle.plan_pass_laws.specs.CachesLeft.{CacheLeft, CacheMade}
use Rattle.plan_meaning.proofs.CacheLists.{back_cache, front_cache, split_cache}

module _ (became : ℕ → Plan → Plan → Type 0) where
  -- what is left of some is left of more
  pub left_among : (c : CacheOf) (xs ys : List CacheOf) → ((d : CacheOf) → IsCacheOf d xs → IsCacheOf d ys) → CacheLeft became c xs → CacheLeft became c ys
  left_among c xs ys sub f = record { given = f.given; there = sub f.given f.there; id = f.id; below = f.below }

  pub back_left : (c : CacheOf) (xs ys : List CacheOf) → CacheLeft became c ys → CacheLeft became c (xs ++ ys)
  back_left c xs ys f = left_among c ys (xs ++ ys) (λ d h. back_cache d xs ys h) f

  -- of caches in two lists each is left of one of two others
  pub either_left : (c : CacheOf) (xs ys us vs : List CacheOf) → (IsCacheOf c xs → CacheLeft became c us) → (IsCacheOf c ys → CacheLeft became c vs) → IsCacheOf c (xs ++ ys) → CacheLeft became c (us ++ vs)
  either_left c xs ys us vs f g h = at (split_cache c xs ys h)
    where
      at : IsCacheOf c xs ⊎ IsCacheOf c ys → CacheLeft became c (us ++ vs)
      at (inl k) = left_among c us (us ++ vs) (λ d i. front_cache d us vs i) (f k)
      at (inr k) = back_left c us vs (g k)

module _ (now : ℕ → Plan → Plan) where
  abbrev made : ℕ → Plan → Plan → Type 0
  made id below left = left ≡ now id below

  pub back_made : (c : CacheOf) (xs ys : List CacheOf) → CacheMade now c ys → CacheMade now c (xs ++ ys)
  back_made c xs ys f = back_left made c xs ys f

  pub either_made : (c : CacheOf) (xs ys us vs : List CacheOf) → (IsCacheOf c xs → CacheMade now c us) → (IsCacheOf c ys → CacheMade now c vs) → IsCacheOf c (xs ++ ys) → CacheMade now c (us ++ vs)
  either_made c xs ys us vs f g h = either_left made c xs ys us vs f g h

  -- caches of one number are left over alike plans where those that they are left of stood over alike plans
  pub made_alike : ((id : ℕ) (x y : Plan) → unmarked x ≡ unmarked y → unmarked (now id x) ≡ unmarked (now id y)) → (p : Plan) (c d : CacheOf) → AreShared p → CacheMade now c (caches p) → CacheMade now d (caches p) → c.id ≡ d.id → unmarked c.below ≡ unmarked d.below
  made_alike alike p c d h f g same =
      let ids : f.given.id ≡ g.given.id = sym f.id ∙ same ∙ g.id in
      ap unmarked f.below ∙ alike f.given.id f.given.below g.given.below (h f.given g.given f.there g.there ids)
      ∙ ap (λ (i : ℕ). unmarked (now i g.given.below)) ids
      ∙ ap unmarked (sym g.below)

  -- so they stay shared
  pub stay_shared : (q p : Plan) → ((c : CacheOf) → IsCacheOf c (caches q) → CacheMade now c (caches p)) → ((id : ℕ) (x y : Plan) → unmarked x ≡ unmarked y → unmarked (now id x) ≡ unmarked (now id y)) → AreShared p → AreShared q
  stay_shared q p left alike h c d i j same = made_alike alike p c d h (left c i) (left d j) same
