-- How many columns the nodes of a plan make, and how many they would where each made only what is asked of it.
use Rattle.std.specs.Prelude.{ℕ, ◌+◌, Bool, true, false, not, List, [], ◌∷◌, length}
use Rattle.std.specs.List.{filter as only_where}
use Rattle.plan_tree.specs.Rose.{Roses, rose, no_roses, more}
use Rattle.plan_expr.specs.Exprs.{ExprOp, column, literal, alias, binary, ternary, aggregate, call, window, len as row_count, Expr, Named}
use Rattle.plan_ir.specs.Plans.{Op, slice, filter, scan, frame_scan, simple_projection, select, hstack, sort, group_by, join, distinct, map_function, sink, union, hconcat, cache, invalid, Plan}
use Rattle.plan_meaning.specs.Typing.{schemas}
use Rattle.plan_meaning.specs.Relating.{Asked, all}
use Rattle.plan_meaning.specs.Counting.{stand_ins}
use Rattle.plan_meaning.specs.Asked.{kept_exprs, selected_exprs, asks, first_asked, rest_asked}

-- whether an operator is a column
abbrev pub is_column_op : ExprOp → Bool
is_column_op (column name) = true
is_column_op (literal value) = false
is_column_op (alias name) = false
is_column_op (binary op) = false
is_column_op ternary = false
is_column_op (aggregate op) = false
is_column_op (call function options) = false
is_column_op window = false
is_column_op row_count = false

-- whether an expression is a column by itself
abbrev pub is_plain : Expr → Bool
is_plain (rose n op es) = is_column_op op

-- how many of some expressions aren't columns by themselves
abbrev pub reckoned_exprs : List Named → ℕ
reckoned_exprs es = length (only_where (λ (e : Named). not (is_plain e.expr)) es)

-- the columns that a node makes: a selection those that aren't columns by themselves, an addition each of its own, a grouping its aggregates
abbrev pub own_made : Op → ℕ
own_made (select exprs schema options) = reckoned_exprs exprs
own_made (hstack exprs schema options) = length exprs
own_made (slice offset len) = 0
own_made (filter predicate) = 0
own_made (scan sources info hive predicate output kind options) = 0
own_made (frame_scan df schema output) = 0
own_made (simple_projection columns) = 0
own_made (sort keys part options) = 0
own_made (group_by keys aggs schema ordered options) = length aggs
own_made (join left_on right_on schema told) = 0
own_made (distinct options) = 0
own_made (map_function function) = 0
own_made (sink payload) = 0
own_made (union options) = 0
own_made (hconcat schema options) = 0
own_made (cache id hits) = 0
own_made invalid = 0

-- the columns that the nodes of plans make
abbrev pub made_in : Roses (Unit {0}) Op → ℕ
made_in no_roses = 0
made_in (more (rose n op ts) rest) = own_made op + (made_in ts + made_in rest)

-- the columns that the nodes of a plan make
abbrev pub made : Plan → ℕ
made p = made_in (more p no_roses)

-- the columns that a node makes where it keeps only what is asked of it
abbrev pub own_kept : Op → Asked → ℕ
own_kept (select exprs schema options) a = reckoned_exprs (selected_exprs a exprs)
own_kept (hstack exprs schema options) a = length (kept_exprs a exprs)
own_kept (slice offset len) a = 0
own_kept (filter predicate) a = 0
own_kept (scan sources info hive predicate output kind options) a = 0
own_kept (frame_scan df schema output) a = 0
own_kept (simple_projection columns) a = 0
own_kept (sort keys part options) a = 0
own_kept (group_by keys aggs schema ordered options) a = length (kept_exprs a aggs)
own_kept (join left_on right_on schema told) a = 0
own_kept (distinct options) a = 0
own_kept (map_function function) a = 0
own_kept (sink payload) a = 0
own_kept (union options) a = 0
own_kept (hconcat schema options) a = 0
own_kept (cache id hits) a = 0
own_kept invalid a = 0

-- the same of the nodes of plans that are asked what the list says
abbrev pub kept_in : Roses (Unit {0}) Op → List Asked → ℕ
kept_in no_roses asked = 0
kept_in (more (rose n op ts) rest) asked =
    own_kept op (first_asked asked) + (kept_in ts (asks op (first_asked asked) (schemas ts) (stand_ins ts (schemas ts))) + kept_in rest (rest_asked asked))

-- the same of the nodes of a plan of which everything is asked
abbrev pub kept : Plan → ℕ
kept p = kept_in (more p no_roses) (all ∷ [])
