-- Which kinds of nodes plans have.
use Rattle.std.specs.Prelude.{Bool, true, false, ◌||◌, List, Option, None, Some, slice_get}
use Rattle.plan_core.specs.declared.arena.Node.{Node}
use Rattle.plan_tree.specs.Rose.{Roses, rose, no_roses, more}
use Rattle.plan_ir.specs.declared.ir.IR.{IR}
use Rattle.plan_ir.specs.declared.ir.IR.TheVariants as nodes
use Rattle.plan_ir.specs.Plans.{Op, cache, distinct, filter, group_by, hconcat, join, sort, union}
use Rattle.plan_collapse_laws.specs.Sites.{is_cross}

-- whether some node of plans, with what is below it, passes a test
abbrev pub has_node : (Op → Roses (Unit {0}) Op → Bool) → Roses (Unit {0}) Op → Bool
has_node test no_roses = false
has_node test (more (rose n op ts) rest) = test op ts || (has_node test ts || has_node test rest)

-- whether some node of plans passes a test
abbrev pub has_op : (Op → Bool) → Roses (Unit {0}) Op → Bool
has_op test ts = has_node (λ (op : Op) (below : Roses (Unit {0}) Op). test op) ts

-- whether a node is a join that gives all pairs
abbrev pub is_cross_join : Op → Bool
is_cross_join (join left_on right_on schema told) = is_cross told.args.how
is_cross_join op = false

-- whether the first of some plans is a join that gives all pairs
abbrev pub first_is_cross_join : Roses (Unit {0}) Op → Bool
first_is_cross_join no_roses = false
first_is_cross_join (more (rose n op ts) rest) = is_cross_join op

-- a join, a union or a concatenation
abbrev pub is_join_or_union : Op → Bool
is_join_or_union (join left_on right_on schema told) = true
is_join_or_union (union options) = true
is_join_or_union (hconcat schema options) = true
is_join_or_union op = false

-- a cache
abbrev pub is_cache : Op → Bool
is_cache (cache id hits) = true
is_cache op = false

-- a filter of all pairs, directly on the join
abbrev pub is_filter_on_cross : Op → Roses (Unit {0}) Op → Bool
is_filter_on_cross (filter predicate) ts = first_is_cross_join ts
is_filter_on_cross op ts = false

-- distinct rows
abbrev pub is_distinct : Op → Bool
is_distinct (distinct options) = true
is_distinct op = false

-- a sort
abbrev pub is_sort : Op → Bool
is_sort (sort keys part options) = true
is_sort op = false

-- a grouping
abbrev pub is_group_by : Op → Bool
is_group_by (group_by keys aggs schema ordered options) = true
is_group_by op = false

-- the input of a filter
abbrev pub filtered : IR → Option Node
filtered (nodes.Filter input predicate) = Some input
filtered p = None

-- whether an entry is a join that gives all pairs
abbrev pub is_cross_entry : Option IR → Bool
is_cross_entry (Some (nodes.Join left right schema left_on right_on options)) = is_cross options.args.how
is_cross_entry p = false

-- whether an entry is a filter whose input is a join that gives all pairs
abbrev pub filters_cross : List IR → IR → Bool
filters_cross lp (nodes.Filter input predicate) = is_cross_entry (slice_get lp input.0)
filters_cross lp p = false
