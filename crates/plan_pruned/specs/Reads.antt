-- What the scans of a pruned plan may read, and how many nodes pruning may add.
use Rattle.std.specs.Prelude.{◌≡◌, ℕ, ◌+◌, true, List, [], ◌∷◌, length, if◌then◌else◌}
use Rattle.plan_core.specs.Columns.{Columns}
use Rattle.plan_core.specs.Names.{has}
use Rattle.plan_tree.specs.Rose.{Roses, rose, no_roses, more}
use Rattle.plan_ir.specs.Plans.{Op, slice, filter, scan, frame_scan, simple_projection, select, hstack, sort, group_by, join, distinct, map_function, sink, union, hconcat, cache, invalid, Plan}
use Rattle.plan_expr.specs.Leaves.{Name}
use Rattle.plan_join.specs.Naming.{has_right}
use Rattle.plan_meaning.specs.Typing.{schemas}
use Rattle.plan_meaning.specs.Relating.{Asked, all, names, cached}
use Rattle.plan_meaning.specs.Scans.{SameScan}
use Rattle.plan_meaning.specs.Counting.{stand_ins}
use Rattle.plan_meaning.specs.Asked.{asks, first_asked, rest_asked, reads, allowed, Site}

-- the scans stand one for one for those that are asked something, and each reads only what it may for that
abbrev pub ReadWithin : List Op → List Site → Type 0
ReadWithin [] [] = Unit {0}
ReadWithin (o ∷ os) (s ∷ ss) = SameScan o s.at_scan × ((a : Name) → has (reads o) a ≡ true → has (allowed s.at_scan s.asked) a ≡ true) × ReadWithin os ss
ReadWithin _ _ = ⊥

-- one where names are asked
abbrev pub one_if_asked : Asked → ℕ
one_if_asked all = 0
one_if_asked (names wanted) = 1
one_if_asked cached = 0

-- the projections that may be put on the inputs of a union: where names are asked one on each of more than one
abbrev pub tops_each : Asked → List Columns → ℕ
tops_each a [] = 0
tops_each a (s ∷ []) = 0
tops_each all (s ∷ t ∷ ss) = 0
tops_each (names wanted) (s ∷ t ∷ ss) = length (s ∷ t ∷ ss)
tops_each cached (s ∷ t ∷ ss) = 0

-- the projections that may be put on a node or its inputs: where names are asked one on a scan, one on a cache, one on a join that puts out columns of its right side, a selection or a projection, and one on each of more than one inputs of a union
abbrev pub own_tops : Op → Asked → List Columns → ℕ
own_tops (scan sources info hive predicate output kind options) a ss = one_if_asked a
own_tops (slice offset len) a ss = 0
own_tops (filter predicate) a ss = 0
own_tops (frame_scan df schema output) a ss = 0
own_tops (select exprs schema options) a ss = 0
own_tops (hstack exprs schema options) a ss = 0
own_tops (simple_projection columns) a ss = 0
own_tops (sort keys part options) a ss = 0
own_tops (group_by keys aggs schema ordered options) a ss = 0
own_tops (join left_on right_on schema told) a ss = if has_right told.args.how then one_if_asked a else 0
own_tops (distinct options) a ss = 0
own_tops (map_function function) a ss = 0
own_tops (sink payload) a ss = 0
own_tops (union options) a ss = tops_each a ss
own_tops (hconcat schema options) a ss = 0
own_tops (cache id hits) a ss = one_if_asked a
own_tops invalid a ss = 0

-- the projections that may be put on the nodes of plans that are asked what the list says
abbrev pub tops_in : Roses (Unit {0}) Op → List Asked → ℕ
tops_in no_roses asked = 0
tops_in (more (rose n op ts) rest) asked =
    own_tops op (first_asked asked) (schemas ts) + (tops_in ts (asks op (first_asked asked) (schemas ts) (stand_ins ts (schemas ts))) + tops_in rest (rest_asked asked))

-- the projections that may be put on the nodes of a plan
abbrev pub tops : Plan → Asked → ℕ
tops p a = tops_in (more p no_roses) (a ∷ [])
