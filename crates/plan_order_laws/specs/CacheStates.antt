-- What becomes of the caches of a plan: joins and unions over them lose their marks, and then one number after another is handled.
use Rattle.std.specs.Prelude.{◌≡◌, ℕ, suc, ◌==◌, Bool, true, false, Option, List, [], ◌∷◌, ◌++◌, map, if◌then◌else◌}
use Rattle.std.specs.List.{AllByRecursion}
use Rattle.std.specs.Ordering.{is_lt, nat_cmp, ordering_then}
use Rattle.std.specs.declared.cmp.Ordering.{Ordering}
use Rattle.plan_tree.specs.Rose.{Roses, rose, no_roses, more}
use Rattle.plan_expr.specs.Leaves.{Name}
use Rattle.plan_ir.specs.Plans.{Op, cache, Plan}
use Rattle.plan_meaning.specs.Caches.{CacheOf, IsCacheOf, caches}
use Rattle.plan_order_laws.specs.CacheSites.{CacheSite, cache_sites, names_read, renewed, renewed_site}
use Rattle.plan_order_laws.specs.Handled.{handled, narrowed, removed}
use Rattle.plan_order_laws.specs.SideBySide.{single}

-- no cache of some is of a number
abbrev pub Free : ℕ → List CacheOf → Type 0
Free id cs = (c : CacheOf) → IsCacheOf c cs → c.id ≡ id → ⊥

-- no cache stands below a cache
abbrev pub IsFlat : Plan → Type 0
IsFlat p = (c : CacheOf) → IsCacheOf c (caches p) → caches c.below ≡ []

-- the caches of a number, handled as its sites tell
abbrev pub handled_by : (List CacheSite → Bool) → ℕ → Plan → Plan
handled_by differ id p = handled (differ (cache_sites id [] (more p no_roses))) id p

-- the caches of numbers, handled one number after another
abbrev pub handled_all : (List CacheSite → Bool) → List ℕ → Plan → Plan
handled_all differ [] p = p
handled_all differ (id ∷ ids) p = handled_all differ ids (handled_by differ id p)

-- what is left of the sites of a number: none where they differ, else each with its input narrowed
abbrev pub sites_left : (List CacheSite → Bool) → List CacheSite → List CacheSite
sites_left differ sites = if differ sites then [] else map (renewed_site (names_read sites)) sites

-- the number of a node, if it is a cache, with how many nodes stand above it
abbrev pub own_rank : ℕ → Op → List (ℕ × ℕ)
own_rank depth (cache id hits) = (depth, id) ∷ []
own_rank depth op = []

-- the numbers of the caches of plans, each with how many nodes stand above it, from left to right
abbrev pub ranks : ℕ → Roses (Unit {0}) Op → List (ℕ × ℕ)
ranks depth no_roses = []
ranks depth (more (rose n op ts) rest) = own_rank depth op ++ (ranks (suc depth) ts ++ ranks depth rest)

-- how two caches stand: the deeper first, and of one depth that of the smaller number
abbrev pub rank_cmp : ℕ × ℕ → ℕ × ℕ → Ordering
rank_cmp x y = ordering_then (nat_cmp y.0 x.0) (nat_cmp x.1 y.1)

-- a cache among others in this order
abbrev pub ranked_in : ℕ × ℕ → List (ℕ × ℕ) → List (ℕ × ℕ)
ranked_in x [] = x ∷ []
ranked_in x (y ∷ ys) = if is_lt (rank_cmp y x) then y ∷ ranked_in x ys else x ∷ y ∷ ys

-- caches in this order
abbrev pub in_rank : List (ℕ × ℕ) → List (ℕ × ℕ)
in_rank [] = []
in_rank (x ∷ xs) = ranked_in x (in_rank xs)

-- numbers without one
abbrev pub without : ℕ → List ℕ → List ℕ
without id [] = []
without id (j ∷ ids) = if j == id then without id ids else j ∷ without id ids

-- the numbers of caches in their order, each where it comes first
abbrev pub each_once : List (ℕ × ℕ) → List ℕ
each_once [] = []
each_once (x ∷ xs) = x.1 ∷ without x.1 (each_once xs)

-- the numbers of the caches of a plan, in the order in which they are handled: by the deepest of each, and the smaller first
abbrev pub ranked : Plan → List ℕ
ranked p = each_once (in_rank (ranks 0 (more p no_roses)))

-- a plan whose caches of these numbers are handled, in this order
abbrev pub cache_states : (List CacheSite → Bool) → List ℕ → Plan → Plan
cache_states differ ids p = handled_all differ ids (single p)

-- a number isn't one of some
abbrev pub Missing : ℕ → List ℕ → Type 0
Missing id ids = AllByRecursion (λ j. j ≡ id → ⊥) ids

-- a number stands once among others
pub record Once (id : ℕ) (ids : List ℕ) : Type 0 where
  pub before : List ℕ
  pub after : List ℕ
  pub is : ids ≡ before ++ id ∷ after
  pub none_before : Missing id before
  pub none_after : Missing id after

-- what becomes of the plan below a cache, whatever its number, where those of one number are taken away
abbrev pub below_removed : ℕ → ℕ → Plan → Plan
below_removed id k p = removed id false p

-- what becomes of the plan below a cache of a number, under a parent, where the sites of one number are narrowed
abbrev pub below_narrowed : ℕ → Option (List Name) → ℕ → Plan → Plan
below_narrowed id read k p = if k == id then renewed read (narrowed id read true p) else narrowed id read true p

-- what becomes of the plan below a cache where joins and unions over caches lose their marks
abbrev pub below_single : ℕ → Plan → Plan
below_single k p = single p
