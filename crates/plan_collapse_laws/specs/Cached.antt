-- Caches whose plans became others.
use Rattle.std.specs.Prelude.{◌≡◌, List}
use Rattle.plan_ir.specs.Plans.{Plan}
use Rattle.plan_meaning.specs.Caches.{CacheOf, IsCacheOf}

-- a cache has the number of one of these, and stands over what its plan became
abbrev pub Became : (now : Plan → Plan) → CacheOf → List CacheOf → Type 0
Became now c ds = (d : CacheOf) × IsCacheOf d ds × (c.id ≡ d.id) × (c.below ≡ now d.below)
