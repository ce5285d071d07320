-- The caches of a number, handled: their sites are narrowed to what is read of them, or they are taken away.
use Rattle.std.specs.Prelude.{ℕ, ◌==◌, Bool, true, false, not, ◌&&◌, ◌||◌, List, [], Option}
use Rattle.plan_tree.specs.Rose.{Roses, rose, no_roses, more}
use Rattle.plan_expr.specs.Leaves.{Name}
use Rattle.plan_ir.specs.Plans.{Op, filter, simple_projection, cache, Plan}
use Rattle.plan_pruned.specs.Pruned.{pruned}
use Rattle.plan_order_laws.specs.CacheSites.{cache_sites, names_read, renewed}

-- the inputs of a node, the first narrowed where it is a site
abbrev pub renewed_if : Bool → Option (List Name) → Roses (Unit {0}) Op → Roses (Unit {0}) Op
renewed_if true read no_roses = no_roses
renewed_if true read (more p rest) = more (renewed read p) rest
renewed_if false read ts = ts

-- whether a node is a cache of a number
abbrev pub is_cache : ℕ → Op → Bool
is_cache id (cache k hits) = k == id
is_cache id op = false

-- a plan, under a parent or not, with the input of each site of a number narrowed to what is read
abbrev mutual
  pub narrowed : ℕ → Option (List Name) → Bool → Plan → Plan
  narrowed id read under (rose n op ts) = rose tt op (renewed_if (under && is_cache id op) read (narrowed_in id read ts))

  pub narrowed_in : ℕ → Option (List Name) → Roses (Unit {0}) Op → Roses (Unit {0}) Op
  narrowed_in id read no_roses = no_roses
  narrowed_in id read (more p rest) = more (narrowed id read true p) (narrowed_in id read rest)

-- whether a node passes rows on as they are: a filter or a projection
abbrev pub is_passing : Op → Bool
is_passing (filter predicate) = true
is_passing (simple_projection columns) = true
is_passing op = false

-- whether plans are one cache of a number
abbrev pub is_place : ℕ → Roses (Unit {0}) Op → Bool
is_place id (more (rose n op ts) no_roses) = is_cache id op
is_place id ts = false

-- whether plans are one node that passes on what such a cache gives
abbrev pub is_near : ℕ → Roses (Unit {0}) Op → Bool
is_near id (more (rose n op ts) no_roses) = is_passing op && is_place id ts
is_near id ts = false

-- whether pruning starts at a node, which stands below one at which it starts or not: at the highest of at most two above a place that pass its rows on
abbrev pub starts : ℕ → Bool → Op → Roses (Unit {0}) Op → Bool
starts id within op ts = not within && (is_passing op && (is_place id ts || is_near id ts))

-- a plan pruned anew, or as it is
abbrev pub pruned_if : Bool → Plan → Plan
pruned_if true p = pruned true [] p
pruned_if false p = p

-- the first of some plans in the place of a node over them, or the node over them
abbrev pub dropped_if : Bool → Op → Roses (Unit {0}) Op → Plan
dropped_if true op (more p no_roses) = p
dropped_if true op ts = rose tt op ts
dropped_if false op ts = rose tt op ts

-- a plan, below one at which pruning starts or not, without its caches of a number, each place pruned anew
abbrev mutual
  pub removed : ℕ → Bool → Plan → Plan
  removed id within (rose n op ts) = pruned_if (starts id within op ts) (dropped_if (is_cache id op) op (removed_in id (starts id within op ts) ts))

  pub removed_in : ℕ → Bool → Roses (Unit {0}) Op → Roses (Unit {0}) Op
  removed_in id within no_roses = no_roses
  removed_in id within (more p rest) = more (removed id within p) (removed_in id within rest)

-- the caches of a number, handled: taken away, or narrowed to what is read
abbrev pub handled : Bool → ℕ → Plan → Plan
handled true id p = removed id false p
handled false id p = narrowed id (names_read (cache_sites id [] (more p no_roses))) false p
