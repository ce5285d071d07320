-- The parts of a node: inputs and expressions.
use Rattle.std.specs.Prelude.{Bool, true, false, List, [], ◌∷◌, ◌++◌, map, length, take, drop, get_or, slice_get, Option, Some, None}
use Rattle.plan_core.specs.declared.arena.Node.{Node}
use Rattle.plan_tree.specs.Stands.{Shape, Trees, StandsOnce}
use Rattle.plan_tree.specs.Rose.{rose, no_roses, more}
use Rattle.plan_expr.specs.declared.aexpr.AExpr.{AExpr}
use Rattle.plan_expr.specs.declared.expr_ir.ExprIR.{ExprIR}
use Rattle.plan_expr.specs.Operands.{expr_shape}
use Rattle.plan_join.specs.declared.options.JoinOptions.{JoinOptions}
use Rattle.plan_join.specs.declared.options.JoinTypeOptionsIR.{JoinTypeOptionsIR}
use Rattle.plan_join.specs.declared.options.JoinTypeOptionsIR.TheVariants.{IEJoin, Cross}
use Rattle.plan_ir.specs.declared.ir.IR.{IR}
use Rattle.plan_ir.specs.declared.ir.IR.TheVariants.{Slice, Filter, Scan, DataFrameScan, SimpleProjection, Select, HStack, Sort, GroupBy, Join, Distinct, MapFunction, Sink, Union, HConcat, Cache, Invalid}

-- a value that may be there, as a list
abbrev pub list_of : {A : Type 0} → Option A → List A
list_of None = []
list_of (Some x) = x ∷ []

-- the inputs of a node, in order
abbrev pub inputs_of : IR → List Node
inputs_of (Slice input offset len) = input ∷ []
inputs_of (Filter input predicate) = input ∷ []
inputs_of (Scan sources file_info hive_parts predicate output_schema scan_type file_options) = []
inputs_of (DataFrameScan df schema output_schema) = []
inputs_of (SimpleProjection input columns) = input ∷ []
inputs_of (Select input expr schema options) = input ∷ []
inputs_of (HStack input exprs schema options) = input ∷ []
inputs_of (Sort input by_column slice sort_options) = input ∷ []
inputs_of (GroupBy input keys aggs schema maintain_order options) = input ∷ []
inputs_of (Join input_left input_right schema left_on right_on options) = input_left ∷ input_right ∷ []
inputs_of (Distinct input options) = input ∷ []
inputs_of (MapFunction input function) = input ∷ []
inputs_of (Sink input payload) = input ∷ []
inputs_of (Union inputs options) = inputs
inputs_of (HConcat inputs schema options) = inputs
inputs_of (Cache input id cache_hits) = input ∷ []
inputs_of Invalid = []

-- the first input of a node; none where it has none, or lists its inputs
abbrev pub first_input : IR → Option Node
first_input (Union inputs options) = None
first_input (HConcat inputs schema options) = None
first_input p = slice_get (inputs_of p) 0

-- what only a kind of joins is told: its condition, if it has one
abbrev pub condition_in : Option JoinTypeOptionsIR → Option ExprIR
condition_in None = None
condition_in (Some (IEJoin operators)) = None
condition_in (Some (Cross predicate)) = Some predicate

-- the condition of a join, if it has one
abbrev pub condition_of : JoinOptions → Option ExprIR
condition_of o = condition_in o.options

-- the expressions of a node, in order: those of a join are its left keys, its right keys, and then its condition
abbrev pub exprs_of : IR → List ExprIR
exprs_of (Slice input offset len) = []
exprs_of (Filter input predicate) = predicate ∷ []
exprs_of (Scan sources file_info hive_parts predicate output_schema scan_type file_options) = list_of predicate
exprs_of (DataFrameScan df schema output_schema) = []
exprs_of (SimpleProjection input columns) = []
exprs_of (Select input expr schema options) = expr
exprs_of (HStack input exprs schema options) = exprs
exprs_of (Sort input by_column slice sort_options) = by_column
exprs_of (GroupBy input keys aggs schema maintain_order options) = keys ++ aggs
exprs_of (Join input_left input_right schema left_on right_on options) = (left_on ++ right_on) ++ list_of (condition_of options)
exprs_of (Distinct input options) = []
exprs_of (MapFunction input function) = []
exprs_of (Sink input payload) = []
exprs_of (Union inputs options) = []
exprs_of (HConcat inputs schema options) = []
exprs_of (Cache input id cache_hits) = []
exprs_of Invalid = []

-- the expressions that a node lists: all but the condition of a join
abbrev pub listed_exprs_of : IR → List ExprIR
listed_exprs_of (Join input_left input_right schema left_on right_on options) = left_on ++ right_on
listed_exprs_of p = exprs_of p

-- what a node that was taken leaves behind
abbrev pub is_invalid : IR → Bool
is_invalid Invalid = true
is_invalid (Slice input offset len) = false
is_invalid (Filter input predicate) = false
is_invalid (Scan sources file_info hive_parts predicate output_schema scan_type file_options) = false
is_invalid (DataFrameScan df schema output_schema) = false
is_invalid (SimpleProjection input columns) = false
is_invalid (Select input expr schema options) = false
is_invalid (HStack input exprs schema options) = false
is_invalid (Sort input by_column slice sort_options) = false
is_invalid (GroupBy input keys aggs schema maintain_order options) = false
is_invalid (Join input_left input_right schema left_on right_on options) = false
is_invalid (Distinct input options) = false
is_invalid (MapFunction input function) = false
is_invalid (Sink input payload) = false
is_invalid (Union inputs options) = false
is_invalid (HConcat inputs schema options) = false
is_invalid (Cache input id cache_hits) = false

-- a scan of files
abbrev pub is_file_scan : IR → Bool
is_file_scan (Scan sources file_info hive_parts predicate output_schema scan_type file_options) = true
is_file_scan other = false

-- a scan of a frame
abbrev pub is_frame_scan : IR → Bool
is_frame_scan (DataFrameScan df schema output_schema) = true
is_frame_scan other = false

-- a selection of columns
abbrev pub is_select : IR → Bool
is_select (Select input expr schema options) = true
is_select other = false

-- an addition of columns
abbrev pub is_hstack : IR → Bool
is_hstack (HStack input exprs schema options) = true
is_hstack other = false

-- a grouping
abbrev pub is_group_by : IR → Bool
is_group_by (GroupBy input keys aggs schema maintain_order options) = true
is_group_by other = false

-- a join
abbrev pub is_join : IR → Bool
is_join (Join input_left input_right schema left_on right_on options) = true
is_join other = false

-- a node without expressions over one input
abbrev pub is_over_one : IR → Bool
is_over_one (Slice input offset len) = true
is_over_one (SimpleProjection input columns) = true
is_over_one (Distinct input options) = true
is_over_one (MapFunction input function) = true
is_over_one (Sink input payload) = true
is_over_one (Cache input id cache_hits) = true
is_over_one other = false

-- a node over as many inputs as it names
abbrev pub is_over_many : IR → Bool
is_over_many (Union inputs options) = true
is_over_many (HConcat inputs schema options) = true
is_over_many other = false

-- a sort
abbrev pub is_sort : IR → Bool
is_sort (Sort input by_column slice sort_options) = true
is_sort other = false

-- how nodes make trees: their inputs in order; what was taken is bad
abbrev pub plan_shape : Shape IR
plan_shape = record { inputs = inputs_of; bad = is_invalid }

-- the numbers of a node's expressions, in order
abbrev pub roots_of : IR → List Node
roots_of p = map (λ (e : ExprIR). e.node) (exprs_of p)

-- the numbers of the expressions of all nodes, node by node in walk order
abbrev pub roots_in : Trees IR → List Node
roots_in no_roses = []
roots_in (more (rose n p kids) rest) = roots_of p ++ (roots_in kids ++ roots_in rest)

-- a tree of nodes stands at a number, and trees of expressions over the expressions of its nodes; no number stands twice
pub record StandsPlan (lp : List IR) (ex : List AExpr) (n : Node) (t : Trees IR) (e : Trees AExpr) : Type 0 where
  pub nodes : StandsOnce plan_shape lp (n ∷ []) t
  pub exprs : StandsOnce expr_shape ex (roots_in t) e

-- a plan stands at a number: a tree of nodes, and the trees of their expressions
pub record IsPlan (lp : List IR) (ex : List AExpr) (n : Node) : Type 0 where
  pub nodes : Trees IR
  pub exprs : Trees AExpr
  pub stands : StandsPlan lp ex n nodes exprs

-- what only a kind of joins is told, with another condition where it has one
abbrev pub told_over : Option JoinTypeOptionsIR → Option ExprIR → Option JoinTypeOptionsIR
told_over (Some (Cross predicate)) (Some other) = Some (Cross other)
told_over told other = told

-- what a join is told, with another condition where it has one
abbrev pub options_over : JoinOptions → Option ExprIR → JoinOptions
options_over o other = record { allow_parallel = o.allow_parallel; force_parallel = o.force_parallel; args = o.args; options = told_over o.options other }

-- the node with other expressions, over other inputs
abbrev pub over_parts : IR → List ExprIR → List Node → IR
over_parts (Slice input offset len) exprs inputs = Slice (get_or inputs 0 input) offset len
over_parts (Filter input predicate) exprs inputs = Filter (get_or inputs 0 input) (get_or exprs 0 predicate)
over_parts (Scan sources file_info hive_parts predicate output_schema scan_type file_options) exprs inputs = Scan sources file_info hive_parts (slice_get exprs 0) output_schema scan_type file_options
over_parts (DataFrameScan df schema output_schema) exprs inputs = DataFrameScan df schema output_schema
over_parts (SimpleProjection input columns) exprs inputs = SimpleProjection (get_or inputs 0 input) columns
over_parts (Select input expr schema options) exprs inputs = Select (get_or inputs 0 input) exprs schema options
over_parts (HStack input own schema options) exprs inputs = HStack (get_or inputs 0 input) exprs schema options
over_parts (Sort input by_column slice sort_options) exprs inputs = Sort (get_or inputs 0 input) exprs slice sort_options
over_parts (GroupBy input keys aggs schema maintain_order options) exprs inputs = GroupBy (get_or inputs 0 input) (take (length keys) exprs) (drop (length keys) exprs) schema maintain_order options
over_parts (Join input_left input_right schema left_on right_on options) exprs inputs =
    Join (get_or inputs 0 input_left) (get_or inputs 1 input_right) schema (take (length left_on) exprs) (take (length right_on) (drop (length left_on) exprs)) (options_over options (slice_get (drop (length right_on) (drop (length left_on) exprs)) 0))
over_parts (Distinct input options) exprs inputs = Distinct (get_or inputs 0 input) options
over_parts (MapFunction input function) exprs inputs = MapFunction (get_or inputs 0 input) function
over_parts (Sink input payload) exprs inputs = Sink (get_or inputs 0 input) payload
over_parts (Union own options) exprs inputs = Union inputs options
over_parts (HConcat own schema options) exprs inputs = HConcat inputs schema options
over_parts (Cache input id cache_hits) exprs inputs = Cache (get_or inputs 0 input) id cache_hits
over_parts Invalid exprs inputs = Invalid

-- the expressions that a copy has: a sort keeps its own keys, a join its condition behind these, and any other node takes these
abbrev pub exprs_over : IR → List ExprIR → List ExprIR
exprs_over (Sort input by_column slice sort_options) exprs = by_column
exprs_over (Join input_left input_right schema left_on right_on options) exprs = exprs ++ list_of (condition_of options)
exprs_over p exprs = exprs
