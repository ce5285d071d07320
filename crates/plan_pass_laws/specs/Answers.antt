-- What the rules make of a plan: the plan that they put in its place, if they do.
use Rattle.std.specs.Prelude.{ℕ, ◌+◌, min, Bool, true, false, not, ◌&&◌, ◌||◌, List, [], ◌∷◌, Option, Some, None, if◌then◌else◌}
use Rattle.plan_core.specs.Columns.{same_columns}
use Rattle.plan_tree.specs.Rose.{Roses, rose, no_roses, more, join as beside}
use Rattle.plan_expr.specs.declared.expr_ir.OutputName.{OutputName}
use Rattle.plan_expr.specs.declared.expr_ir.OutputName.TheVariants as names
use Rattle.plan_expr.specs.declared.literal.LiteralValue.TheVariants.{Boolean}
use Rattle.plan_expr.specs.Exprs.{ExprOp, literal, Expr, Named}
use Rattle.plan_ir.specs.Plans.{Op, filter, scan, simple_projection, select, group_by, join, union, cache, Plan}
use Rattle.plan_meaning.specs.Marks.{unmarked_op}
use Rattle.plan_meaning.specs.Typing.{schema_by, schemas}
use Rattle.plan_meaning.specs.Work.{is_plain}
use Rattle.plan_pass_laws.specs.declared.kind.RuleKind.{RuleKind}
use Rattle.plan_pass_laws.specs.declared.kind.RuleKind.TheVariants as kinds

-- Collapse

-- an output name that is an alias
abbrev pub is_alias : OutputName → Bool
is_alias (names.Alias a) = true
is_alias (names.ColumnLhs a) = false
is_alias (names.LiteralLhs a) = false
is_alias names.None = false

-- a column under its own name
abbrev pub is_own_column : Named → Bool
is_own_column e = is_plain e.expr && not (is_alias e.name)

-- each expression is a column under its own name
abbrev pub are_own_columns : List Named → Bool
are_own_columns [] = true
are_own_columns (e ∷ es) = is_own_column e && are_own_columns es

-- the hits of two caches together, as many as can be told
abbrev pub hits_of : ℕ → ℕ → ℕ
hits_of outer inner = min (outer + inner) 4294967295

-- a selection as a projection
abbrev pub as_projection : Op → Op
as_projection (select exprs schema options) = simple_projection schema
as_projection op = op

-- a selection of columns under their own names
abbrev pub selects_columns : Op → Bool
selects_columns (select exprs schema options) = are_own_columns exprs
selects_columns op = false

-- what a projection on a plan becomes: on the input of a projection, or the plan itself where that has its columns
abbrev pub joined_projection : Op → Plan → Option Plan
joined_projection (simple_projection columns) (rose m (simple_projection lower) us) = Some (rose tt (simple_projection columns) us)
joined_projection (simple_projection columns) (rose m op us) = if same_columns columns (schema_by op (schemas us)) then Some (rose m op us) else None
joined_projection above p = None

-- what a cache on a cache becomes
abbrev pub joined_cache : Op → Plan → Option Plan
joined_cache (cache id hits) (rose m (cache lower more_hits) us) = Some (rose tt (cache lower (hits_of hits more_hits)) us)
joined_cache above p = None

-- the first of two answers
abbrev pub or_answer : Option Plan → Option Plan → Option Plan
or_answer None o = o
or_answer (Some p) o = Some p

-- what a node on one input becomes
abbrev pub joined_node : Op → Roses (Unit {0}) Op → Option Plan
joined_node op (more p no_roses) = or_answer (joined_projection op p) (joined_cache op p)
joined_node op ts = None

-- what collapse answers
abbrev pub collapse_answer : (eager : Bool) → Plan → Option Plan
collapse_answer eager (rose n op ts) =
    if selects_columns op then Some (rose n (as_projection op) ts)
    else (if eager then None else joined_node op ts)

-- Flatten

-- a union that isn't marked as flattened
abbrev pub is_unflattened : Op → Bool
is_unflattened (union options) = not options.flattened_by_opt
is_unflattened op = false

-- one of the plans is a union that isn't marked as flattened
abbrev pub has_unflattened : Roses (Unit {0}) Op → Bool
has_unflattened no_roses = false
has_unflattened (more (rose n op ts) rest) = is_unflattened op || has_unflattened rest

-- a plan, or the inputs of a union in its place
abbrev pub taken_up : Plan → Roses (Unit {0}) Op → Roses (Unit {0}) Op
taken_up (rose n (union options) us) rest = beside us rest
taken_up p rest = more p rest

-- plans, with the inputs of unions in the place of these
abbrev pub all_taken_up : Roses (Unit {0}) Op → Roses (Unit {0}) Op
all_taken_up no_roses = no_roses
all_taken_up (more p rest) = taken_up p (all_taken_up rest)

-- what flatten answers
abbrev pub flatten_answer : Plan → Option Plan
flatten_answer (rose n (union options) ts) = if has_unflattened ts then Some (rose n (union (record options { flattened_by_opt = true })) (all_taken_up ts)) else None
flatten_answer p = None

-- Rechunk

-- what is sought below a grouping: a scan of files, a union or a join
abbrev pub is_met : Op → Bool
is_met (scan sources info hive predicate output kind options) = true
is_met (union options) = true
is_met (join left_on right_on schema told) = true
is_met op = false

-- one of the nodes of plans is a scan of files, a union or a join
abbrev pub meets : Roses (Unit {0}) Op → Bool
meets no_roses = false
meets (more (rose n op ts) rest) = meets rest || (is_met op || meets ts)

-- the first of them that is met, each node before its inputs and the last plan first; none where there is none
abbrev pub first_met : Roses (Unit {0}) Op → Option Op
first_met no_roses = None
first_met (more (rose n op ts) rest) = if meets rest then first_met rest else (if is_met op then Some op else first_met ts)

-- plans, with the rechunk mark of the first of these cleared
abbrev pub delayed_in : Roses (Unit {0}) Op → Roses (Unit {0}) Op
delayed_in no_roses = no_roses
delayed_in (more (rose n op ts) rest) =
    if meets rest then more (rose n op ts) (delayed_in rest)
    else (if is_met op then more (rose n (unmarked_op op) ts) rest else more (rose n op (delayed_in ts)) rest)

-- a grouping by one key
abbrev pub groups_by_one : Op → Bool
groups_by_one (group_by (key ∷ []) aggs schema ordered options) = true
groups_by_one op = false

-- a plan, with the mark below a grouping by one key cleared
abbrev pub delayed : Plan → Plan
delayed (rose n op ts) = if groups_by_one op then rose n op (delayed_in ts) else rose n op ts

-- True filters

-- a node of an expression is the literal true
abbrev pub is_true_op : ExprOp → Bool
is_true_op (literal (Boolean b)) = b
is_true_op op = false

-- an expression is the literal true
abbrev pub is_true_literal : Expr → Bool
is_true_literal (rose n op es) = is_true_op op

-- a filter that keeps every row
abbrev pub keeps_all : Op → Bool
keeps_all (filter predicate) = is_true_literal predicate.expr
keeps_all op = false

-- the only one of some plans
abbrev pub only_input : Roses (Unit {0}) Op → Option Plan
only_input (more p no_roses) = Some p
only_input ts = None

-- what the rule against true filters answers
abbrev pub true_filter_answer : Plan → Option Plan
true_filter_answer (rose n op ts) = if keeps_all op then only_input ts else None

-- Rules

-- what a rule of a kind answers; a rule that delays answers nothing
abbrev pub answer_of : RuleKind → Plan → Option Plan
answer_of (kinds.Collapse eager) p = collapse_answer eager p
answer_of kinds.Flatten p = flatten_answer p
answer_of kinds.Rechunk p = None
answer_of kinds.TrueFilter p = true_filter_answer p
answer_of kinds.Other p = None

-- the plan that a rule leaves where it answers nothing
abbrev pub left_by : RuleKind → Plan → Plan
left_by kinds.Rechunk p = delayed p
left_by kind p = p
