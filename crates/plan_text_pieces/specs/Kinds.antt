-- The texts of types, operators, aggregates, functions, rows that are kept, kinds and parts of joins, and errors.
use Rattle.std.specs.Prelude.{ℕ, List, None, true, false, codes}
use Rattle.plan_core.specs.declared.data_type.DataType.{DataType}
use Rattle.plan_core.specs.declared.data_type.DataType.TheVariants as types
use Rattle.plan_core.specs.declared.data_type.PlainType.{PlainType}
use Rattle.plan_core.specs.declared.data_type.PlainType.TheVariants as plains
use Rattle.plan_core.specs.declared.error.At.{At}
use Rattle.plan_core.specs.declared.error.PolarsError.{PolarsError}
use Rattle.plan_core.specs.declared.error.PolarsError.TheVariants as errors
use Rattle.plan_expr.specs.declared.agg.IRAggExpr.{IRAggExpr}
use Rattle.plan_expr.specs.declared.agg.IRAggExpr.TheVariants as aggs
use Rattle.plan_expr.specs.declared.function_expr.FunctionExpr.{FunctionExpr}
use Rattle.plan_expr.specs.declared.function_expr.FunctionExpr.TheVariants as functions
use Rattle.plan_expr.specs.declared.literal.LiteralValue.{LiteralValue}
use Rattle.plan_expr.specs.declared.literal.LiteralValue.TheVariants as literals
use Rattle.plan_expr.specs.declared.operator.Operator.{Operator}
use Rattle.plan_expr.specs.declared.operator.Operator.TheVariants as operators
use Rattle.plan_options.specs.declared.distinct.UniqueKeepStrategy.{UniqueKeepStrategy}
use Rattle.plan_options.specs.declared.distinct.UniqueKeepStrategy.TheVariants as keeps
use Rattle.plan_options.specs.declared.join.InequalityOperator.{InequalityOperator}
use Rattle.plan_options.specs.declared.join.InequalityOperator.TheVariants as inequalities
use Rattle.plan_options.specs.declared.join.JoinCoalesce.{JoinCoalesce}
use Rattle.plan_options.specs.declared.join.JoinCoalesce.TheVariants as coalesces
use Rattle.plan_options.specs.declared.join.JoinType.{JoinType}
use Rattle.plan_options.specs.declared.join.JoinType.TheVariants as joins
use Rattle.plan_options.specs.declared.join.MaintainOrderJoin.{MaintainOrderJoin}
use Rattle.plan_options.specs.declared.join.MaintainOrderJoin.TheVariants as orders

-- the name of a type of lists
abbrev pub list_text : PlainType → List ℕ
list_text plains.Int64 = codes "List(Int64)"
list_text plains.String = codes "List(String)"
list_text plains.Boolean = codes "List(Boolean)"

-- the name of a type
abbrev pub type_text : DataType → List ℕ
type_text types.Int64 = codes "Int64"
type_text types.String = codes "String"
type_text types.Boolean = codes "Boolean"
type_text (types.List t) = list_text t

-- the name of the type of a single value
abbrev pub plain_text : PlainType → List ℕ
plain_text plains.Int64 = codes "Int64"
plain_text plains.String = codes "String"
plain_text plains.Boolean = codes "Boolean"

-- the name of the type of a value that is written out
abbrev pub literal_text : LiteralValue → List ℕ
literal_text (literals.Null t) = plain_text t
literal_text (literals.Int64 z) = codes "Int64"
literal_text (literals.String s) = codes "String"
literal_text (literals.Boolean b) = codes "Boolean"

-- the name of an operator
abbrev pub operator_text : Operator → List ℕ
operator_text operators.Eq = codes "Eq"
operator_text operators.NotEq = codes "NotEq"
operator_text operators.Lt = codes "Lt"
operator_text operators.LtEq = codes "LtEq"
operator_text operators.Gt = codes "Gt"
operator_text operators.GtEq = codes "GtEq"
operator_text operators.EqValidity = codes "EqValidity"
operator_text operators.NotEqValidity = codes "NotEqValidity"
operator_text operators.And = codes "And"
operator_text operators.Or = codes "Or"
operator_text operators.Xor = codes "Xor"
operator_text operators.Plus = codes "Plus"
operator_text operators.Minus = codes "Minus"
operator_text operators.Multiply = codes "Multiply"

-- the name of an aggregate
abbrev pub agg_text : IRAggExpr → List ℕ
agg_text (aggs.Min input) = codes "Min"
agg_text (aggs.Max input) = codes "Max"
agg_text (aggs.Sum input) = codes "Sum"
agg_text (aggs.Count input false) = codes "Count"
agg_text (aggs.Count input true) = codes "CountAll"
agg_text (aggs.NUnique input) = codes "NUnique"
agg_text (aggs.First input) = codes "First"
agg_text (aggs.Last input) = codes "Last"
agg_text (aggs.Implode input) = codes "Implode"

-- the name of a function
abbrev pub function_text : FunctionExpr → List ℕ
function_text functions.Not = codes "Not"
function_text functions.IsNull = codes "IsNull"
function_text functions.IsNotNull = codes "IsNotNull"
function_text functions.FillNull = codes "FillNull"
function_text functions.Reverse = codes "Reverse"
function_text functions.CumSum = codes "CumSum"

-- the name of which row is kept
abbrev pub keep_text : UniqueKeepStrategy → List ℕ
keep_text keeps.First = codes "First"
keep_text keeps.Last = codes "Last"
keep_text keeps.None = codes "None"
keep_text keeps.Any = codes "Any"

-- the name of which pairs of rows a join gives
abbrev pub how_text : JoinType → List ℕ
how_text joins.Inner = codes "Inner"
how_text joins.Left = codes "Left"
how_text joins.Right = codes "Right"
how_text joins.Full = codes "Full"
how_text joins.Cross = codes "Cross"
how_text joins.Semi = codes "Semi"
how_text joins.Anti = codes "Anti"
how_text joins.IEJoin = codes "IEJoin"

-- the name of whether pairs of key columns are put out as one
abbrev pub coalesce_text : JoinCoalesce → List ℕ
coalesce_text coalesces.JoinSpecific = codes "JoinSpecific"
coalesce_text coalesces.CoalesceColumns = codes "CoalesceColumns"
coalesce_text coalesces.KeepColumns = codes "KeepColumns"

-- the name of which order of its inputs a join keeps
abbrev pub order_text : MaintainOrderJoin → List ℕ
order_text orders.None = codes "None"
order_text orders.Left = codes "Left"
order_text orders.Right = codes "Right"
order_text orders.LeftRight = codes "LeftRight"
order_text orders.RightLeft = codes "RightLeft"

-- the name of an inequality
abbrev pub inequality_text : InequalityOperator → List ℕ
inequality_text inequalities.Lt = codes "Lt"
inequality_text inequalities.LtEq = codes "LtEq"
inequality_text inequalities.Gt = codes "Gt"
inequality_text inequalities.GtEq = codes "GtEq"

-- the name of an error's kind
abbrev pub fault_text : PolarsError → List ℕ
fault_text (errors.SchemaFieldNotFound at) = codes "SchemaFieldNotFound"
fault_text (errors.Duplicate at) = codes "Duplicate"
fault_text (errors.SchemaMismatch at) = codes "SchemaMismatch"
fault_text (errors.InvalidOperation at) = codes "InvalidOperation"
fault_text (errors.ComputeError at) = codes "ComputeError"
fault_text errors.OutOfMemory = codes "OutOfMemory"

-- where an error lies: want of memory lies at no node
abbrev pub place_of : PolarsError → At
place_of (errors.SchemaFieldNotFound at) = at
place_of (errors.Duplicate at) = at
place_of (errors.SchemaMismatch at) = at
place_of (errors.InvalidOperation at) = at
place_of (errors.ComputeError at) = at
place_of errors.OutOfMemory = record { node = None; place = 0 }
