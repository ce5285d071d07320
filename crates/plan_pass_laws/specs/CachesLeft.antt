-- The caches that are left where a plan becomes another.
use Rattle.std.specs.Prelude.{◌≡◌, ℕ, List}
use Rattle.plan_ir.specs.Plans.{Plan}
use Rattle.plan_meaning.specs.Caches.{CacheOf, IsCacheOf}

-- a cache is left of one of these: it has the number of that one, and stands over what became of the plan below it
pub record CacheLeft (became : ℕ → Plan → Plan → Type 0) (c : CacheOf) (cs : List CacheOf) : Type 0 where
  pub given : CacheOf
  pub there : IsCacheOf given cs
  pub id : c.id ≡ given.id
  pub below : became given.id given.below c.below

-- a cache is left of one of these, over what a function makes of the number and the plan below it
abbrev pub CacheMade : (ℕ → Plan → Plan) → CacheOf → List CacheOf → Type 0
CacheMade now c cs = CacheLeft (λ id below left. left ≡ now id below) c cs
