-- The sites of a cache number in a plan: what is read of each, and its input narrowed to what is read of all.
use Rattle.std.specs.Prelude.{◌≡◌, ℕ, ◌==◌, true, List, [], ◌∷◌, ◌++◌, Option, None, Some, if◌then◌else◌}
use Rattle.std.specs.List.{AllByRecursion, filter as only_where}
use Rattle.plan_core.specs.Columns.{Columns, names_of}
use Rattle.plan_core.specs.Names.{has}
use Rattle.plan_tree.specs.Rose.{Roses, rose, no_roses, more}
use Rattle.plan_expr.specs.Exprs.{Expr}
use Rattle.plan_expr.specs.Leaves.{Name, leaves}
use Rattle.plan_ir.specs.Plans.{Op, filter, simple_projection, cache, Plan}
use Rattle.plan_meaning.specs.Asked.{set_of, sites_of}
use Rattle.plan_meaning.specs.PlanAt.{one_plan}
use Rattle.plan_meaning.specs.Relating.{Asked, all}
use Rattle.plan_meaning.specs.Scans.{scans}
use Rattle.plan_meaning.specs.Typing.{first_schema, schema}
use Rattle.plan_pruned.specs.Pruned.{covered, pruned}
use Rattle.plan_pruned.specs.Reads.{ReadWithin}
use Rattle.plan_schema.specs.Stored.{stored_all}

-- a cache under a parent: the names that are read of it, none where all are, the condition on its rows, if there is one, and its input
pub record CacheSite : Type 0 where
  pub names : Option (List Name)
  pub conditions : List Expr
  pub input : Plan

-- the names that are read of what stands below these nodes, the nearest first; none where all are
abbrev pub names_below : List Op → Option (List Name)
names_below (simple_projection columns ∷ above) = Some (names_of columns)
names_below (filter predicate ∷ simple_projection columns ∷ above) = Some (leaves predicate.expr ++ names_of columns)
names_below above = None

-- the condition on the rows of what stands below these nodes, if there is one
abbrev pub conditions_below : List Op → List Expr
conditions_below (filter predicate ∷ above) = predicate.expr ∷ []
conditions_below (simple_projection columns ∷ filter predicate ∷ above) = predicate.expr ∷ []
conditions_below above = []

-- the site that a node over inputs and below these is by itself: a cache of this number is one, unless it is the root
abbrev pub own_site : ℕ → List Op → Op → Roses (Unit {0}) Op → List CacheSite
own_site id [] op ts = []
own_site id (o ∷ above) (cache k hits) ts = if k == id then record { names = names_below (o ∷ above); conditions = conditions_below (o ∷ above); input = one_plan ts } ∷ [] else []
own_site id (o ∷ above) op ts = []

-- the sites of a number in plans that stand below these nodes, from left to right
abbrev pub cache_sites : ℕ → List Op → Roses (Unit {0}) Op → List CacheSite
cache_sites id above no_roses = []
cache_sites id above (more (rose n op ts) rest) = own_site id above op ts ++ (cache_sites id (op ∷ above) ts ++ cache_sites id above rest)

-- the names of two sites, none where one of them is read whole
abbrev pub both_names : Option (List Name) → Option (List Name) → Option (List Name)
both_names None ns = None
both_names (Some l) None = None
both_names (Some l) (Some m) = Some (l ++ m)

-- all names that are read of some sites, none where one of them is read whole
abbrev pub names_read : List CacheSite → Option (List Name)
names_read [] = Some []
names_read (s ∷ ss) = both_names s.names (names_read ss)

-- the names of columns that are read, in their order
abbrev pub read_of : Option (List Name) → List Name → List Name
read_of None names = names
read_of (Some read) names = only_where (has read) names

-- a plan without the projection on top, where there is one
abbrev pub under_projection : Plan → Plan
under_projection (rose n (simple_projection columns) (more p no_roses)) = p
under_projection p = p

-- the names of a plan's columns that are read, in their order
abbrev pub names_left : Option (List Name) → Plan → List Name
names_left read p = read_of read (names_of (first_schema (stored_all (more p no_roses))))

-- a plan cut to these names of its own, in the place of a projection that it has on top; where there are none, as it is
abbrev pub cut_to : List Name → Plan → Plan
cut_to [] p = p
cut_to (a ∷ names) p = covered (a ∷ names) (under_projection p)

-- a plan cut so, and pruned anew
abbrev pub pruned_to : List Name → Plan → Plan
pruned_to names p = pruned true [] (cut_to names p)

-- the input of a site, narrowed to what is read
abbrev pub renewed : Option (List Name) → Plan → Plan
renewed read p = pruned_to (names_left read p) p

-- these names, or where there are none the others
abbrev pub names_or_own : List Name → List Name → List Name
names_or_own [] names = names
names_or_own (a ∷ left) names = a ∷ left

-- a site with its input narrowed
abbrev pub renewed_site : Option (List Name) → CacheSite → CacheSite
renewed_site read s = record s { input = renewed read s.input }

-- columns are seen at those of them that are read
abbrev pub wanted : Option (List Name) → Columns → Asked
wanted None s = all
wanted (Some read) s = set_of (only_where (has read) (names_of s))

-- the names that are read of a site are among those that are read
abbrev pub Reads : Option (List Name) → Option (List Name) → Type 0
Reads None names = Unit {0}
Reads (Some read) None = ⊥
Reads (Some read) (Some names) = (a : Name) → has names a ≡ true → has read a ≡ true

-- the names that are read of each of some sites are among those that are read
abbrev pub AllRead : Option (List Name) → List CacheSite → Type 0
AllRead read ss = AllByRecursion (λ (s : CacheSite). Reads read s.names) ss

-- the input of a site, narrowed to what is read: its names, and what its scans may read
pub record IsNarrowed (read : Option (List Name)) (p : Plan) : Type 0 where
  pub names : names_of (schema (renewed read p)) ≡ names_or_own (read_of read (names_of (schema p))) (names_of (schema p))
  pub reads : ReadWithin (scans (renewed read p)) (sites_of (covered (names_left read p) p))

-- the input of each of some sites, narrowed, has those names and reads
abbrev pub AllNarrowed : Option (List Name) → List CacheSite → Type 0
AllNarrowed read sites = AllByRecursion (λ (s : CacheSite). IsNarrowed read s.input) sites
