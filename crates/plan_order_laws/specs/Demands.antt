-- Which nodes of a plan must keep the order of their rows, and the plan without what nothing observes of it.
use Rattle.std.specs.Prelude.{ℕ, Bool, true, false, not, ◌&&◌, ◌||◌, if◌then◌else◌}
use Rattle.plan_tree.specs.Rose.{Roses, rose, no_roses, more}
use Rattle.plan_ir.specs.Plans.{Op, slice, filter, scan, frame_scan, simple_projection, select, hstack, sort, group_by, join, distinct, map_function, sink, union, hconcat, cache, invalid, Plan}
use Rattle.plan_meaning.specs.PlanAt.{one_plan}
use Rattle.plan_order_laws.specs.Orderless.{distinct_demands}
use Rattle.plan_order_laws.specs.Elementwise.{all_elementwise, all_summaries}
use Rattle.plan_core.specs.Flags.{bits_of, has_bits}
use Rattle.plan_core.specs.declared.flags.OptFlags.{OptFlags}

-- whether a node demands the order of its last input, where its own is demanded or not; of inputs before the last it always does
abbrev pub demands : Bool → Op → Bool
demands d (sort keys part options) = d && (options.maintain_order || not (all_elementwise keys))
demands d (distinct options) = distinct_demands options.keep_strategy (d && options.maintain_order)
demands d (union options) = d
demands d (group_by keys aggs schema ordered options) = ordered || not (all_elementwise keys && all_summaries aggs)
demands d (select exprs schema options) = d || not (all_elementwise exprs)
demands d (hstack exprs schema options) = d || not (all_elementwise exprs)
demands d (slice offset len) = true
demands d (filter predicate) = true
demands d (scan sources info hive predicate output kind options) = true
demands d (frame_scan df schema output) = true
demands d (simple_projection columns) = true
demands d (join left_on right_on schema told) = true
demands d (map_function function) = true
demands d (sink payload) = true
demands d (hconcat schema options) = true
demands d (cache id hits) = true
demands d invalid = true

-- a node with the mark that its demand gives it
abbrev pub told_order : Bool → Op → Op
told_order d (distinct options) = distinct (record options { maintain_order = d && options.maintain_order })
told_order d (union options) = union (record options { maintain_order = d })
told_order d op = op

-- whether a node has no effect that is observed: a sort has none where its order isn't demanded
abbrev pub is_idle : Bool → Op → Bool
is_idle d (sort keys part options) = not d
is_idle d op = false

-- a node over inputs with the mark that its demand gives it, or one without effect left out
abbrev pub with_order : Bool → Op → Roses (Unit {0}) Op → Plan
with_order d op ts = if is_idle d op then one_plan ts else rose tt (told_order d op) ts

-- a plan whose order is demanded or not, without the sorts that nothing observes, and plans of which the order of the last is demanded or not, and that of those before it is
abbrev mutual
  pub ordered : Bool → Plan → Plan
  ordered d (rose n op ts) = with_order d op (ordered_in (demands d op) ts)

  pub ordered_in : Bool → Roses (Unit {0}) Op → Roses (Unit {0}) Op
  ordered_in d no_roses = no_roses
  ordered_in d (more p no_roses) = more (ordered d p) no_roses
  ordered_in d (more p (more q rest)) = more (ordered true p) (ordered_in d (more q rest))

-- a node over inputs, or one without effect left out
abbrev pub without_idle : Bool → Op → Roses (Unit {0}) Op → Plan
without_idle d op ts = if is_idle d op then one_plan ts else rose tt op ts

-- a plan whose order is demanded or not, without the sorts that nothing observes, its marks as they are
abbrev mutual
  pub unsorted : Bool → Plan → Plan
  unsorted d (rose n op ts) = without_idle d op (unsorted_in (demands d op) ts)

  pub unsorted_in : Bool → Roses (Unit {0}) Op → Roses (Unit {0}) Op
  unsorted_in d no_roses = no_roses
  unsorted_in d (more p no_roses) = more (unsorted d p) no_roses
  unsorted_in d (more p (more q rest)) = more (unsorted true p) (unsorted_in d (more q rest))

-- the bit of the flag by which orders are checked
abbrev pub order_bit : ℕ
order_bit = 65536

-- the bit of eager runs
abbrev pub eager_bit : ℕ
eager_bit = 4096

-- whether flags ask that orders which nothing observes are dropped: orders are checked, and the run isn't eager
abbrev pub drops_order : OptFlags → Bool
drops_order flags = has_bits (bits_of flags) order_bit && not (has_bits (bits_of flags) eager_bit)

-- the plan by which what its scans may read is told: without the sorts that nothing observes, where the flags ask that these are dropped
abbrev pub basis : OptFlags → Plan → Plan
basis flags p = if drops_order flags then unsorted true p else p
