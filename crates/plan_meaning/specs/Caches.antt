-- The caches of a plan, each with its number and the plan below it.
use Rattle.std.specs.Prelude.{◌≡◌, ◌⊎◌, ℕ, List, [], ◌∷◌, ◌++◌}
use Rattle.plan_tree.specs.Rose.{Roses, rose, no_roses, more}
use Rattle.plan_ir.specs.Plans.{Op, Plan, cache}
use Rattle.plan_meaning.specs.Marks.{unmarked}
use Rattle.plan_meaning.specs.PlanAt.{one_plan}

-- a cache: its number, and the plan whose rows it keeps
pub record CacheOf : Type 0 where
  pub id : ℕ
  pub below : Plan

-- a node over its inputs, if it is a cache
abbrev pub own_cache : Op → Roses (Unit {0}) Op → List CacheOf
own_cache (cache id hits) ts = record { id = id; below = one_plan ts } ∷ []
own_cache op ts = []

-- the caches of a plan in walk order
abbrev mutual
  pub caches : Plan → List CacheOf
  caches (rose n op ts) = own_cache op ts ++ caches_in ts

  pub caches_in : Roses (Unit {0}) Op → List CacheOf
  caches_in no_roses = []
  caches_in (more p rest) = caches p ++ caches_in rest

-- a cache is one of these
abbrev pub IsCacheOf : CacheOf → List CacheOf → Type 0
IsCacheOf c [] = ⊥
IsCacheOf c (d ∷ ds) = (c ≡ d) ⊎ IsCacheOf c ds

-- caches of one number stand over plans that are equal but for their rechunk marks
abbrev pub AreShared : Plan → Type 0
AreShared p = (c d : CacheOf) → IsCacheOf c (caches p) → IsCacheOf d (caches p) → c.id ≡ d.id → unmarked c.below ≡ unmarked d.below
