-- The scans of a plan, and that one plan keeps those of another.
use Rattle.std.specs.Prelude.{◌≡◌, ℕ, true, List, [], ◌∷◌, ◌++◌}
use Rattle.plan_core.specs.Names.{has}
use Rattle.plan_tree.specs.Rose.{Roses, rose, no_roses, more, size}
use Rattle.plan_ir.specs.Plans.{Op, slice, filter, scan, frame_scan, simple_projection, select, hstack, sort, group_by, join, distinct, map_function, sink, union, hconcat, cache, invalid, Plan}
use Rattle.plan_expr.specs.Leaves.{Name}
use Rattle.plan_meaning.specs.Asked.{reads}

-- a node, if it is a scan
abbrev pub own_scan : Op → List Op
own_scan (scan sources info hive predicate output kind options) = scan sources info hive predicate output kind options ∷ []
own_scan (frame_scan df schema output) = frame_scan df schema output ∷ []
own_scan (slice offset len) = []
own_scan (filter predicate) = []
own_scan (simple_projection columns) = []
own_scan (select exprs schema options) = []
own_scan (hstack exprs schema options) = []
own_scan (sort keys part options) = []
own_scan (group_by keys aggs schema ordered options) = []
own_scan (join left_on right_on schema told) = []
own_scan (distinct options) = []
own_scan (map_function function) = []
own_scan (sink payload) = []
own_scan (union options) = []
own_scan (hconcat schema options) = []
own_scan (cache id hits) = []
own_scan invalid = []

-- the scans of a plan from left to right
abbrev mutual
  pub scans : Plan → List Op
  scans (rose n op ts) = own_scan op ++ scans_in ts

  pub scans_in : Roses (Unit {0}) Op → List Op
  scans_in no_roses = []
  scans_in (more p rest) = scans p ++ scans_in rest

-- two scans are of one kind, over the same sources in the same order, or of the frame that is handed in under one number
abbrev pub SameScan : Op → Op → Type 0
SameScan (scan sources info hive predicate output kind options) (scan sources' info' hive' predicate' output' kind' options') = (sources ≡ sources') × (kind ≡ kind')
SameScan (frame_scan df schema output) (frame_scan df' schema' output') = df ≡ df'
SameScan _ _ = ⊥

-- scans stand one for one for others, and each reads only columns that the other reads
abbrev pub KeepScans : List Op → List Op → Type 0
KeepScans [] [] = Unit {0}
KeepScans (o ∷ os) (s ∷ ss) = SameScan o s × ((a : Name) → has (reads o) a ≡ true → has (reads s) a ≡ true) × KeepScans os ss
KeepScans _ _ = ⊥

-- lists of names stand one for one for scans, and each has the names of the columns that its scan reads
abbrev pub NameReads : List (List Name) → List Op → Type 0
NameReads [] [] = Unit {0}
NameReads (names ∷ lists) (s ∷ ss) = ((a : Name) → has names a ≡ has (reads s) a) × NameReads lists ss
NameReads _ _ = ⊥

-- a plan keeps the scans of another
abbrev pub Keeps : Plan → Plan → Type 0
Keeps q p = KeepScans (scans q) (scans p)

-- how many nodes a plan has
abbrev pub nodes : Plan → ℕ
nodes p = size (more p no_roses)
