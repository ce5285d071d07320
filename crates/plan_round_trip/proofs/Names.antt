-- The names of types, operators, aggregates, functions, kept rows, kinds of files and parts of joins are read as they are written.
use Rattle.std.proofs.Common.{◌≡◌, true, false, Some, refl}
use Rattle.serde_json.specs.Data.{string}
use Rattle.plan_core.specs.declared.data_type.DataType.{DataType}
use Rattle.plan_core.specs.declared.data_type.DataType.TheVariants as types
use Rattle.plan_core.specs.declared.data_type.PlainType.{PlainType}
use Rattle.plan_core.specs.declared.data_type.PlainType.TheVariants as plains
use Rattle.plan_expr.specs.Aggregates.{agg_input}
use Rattle.plan_expr.specs.declared.agg.IRAggExpr.{IRAggExpr}
use Rattle.plan_expr.specs.declared.agg.IRAggExpr.TheVariants as aggs
use Rattle.plan_expr.specs.declared.function_expr.FunctionExpr.{FunctionExpr}
use Rattle.plan_expr.specs.declared.function_expr.FunctionExpr.TheVariants as functions
use Rattle.plan_expr.specs.declared.operator.Operator.{Operator}
use Rattle.plan_expr.specs.declared.operator.Operator.TheVariants as operators
use Rattle.plan_options.specs.declared.distinct.UniqueKeepStrategy.{UniqueKeepStrategy}
use Rattle.plan_options.specs.declared.distinct.UniqueKeepStrategy.TheVariants as keeps
use Rattle.plan_options.specs.declared.join.InequalityOperator.{InequalityOperator}
use Rattle.plan_options.specs.declared.join.InequalityOperator.TheVariants as inequalities
use Rattle.plan_options.specs.declared.join.JoinCoalesce.{JoinCoalesce}
use Rattle.plan_options.specs.declared.join.JoinCoalesce.TheVariants as coalesces
use Rattle.plan_options.specs.declared.join.JoinType.{JoinType}
use Rattle.plan_options.specs.declared.join.JoinType.TheVariants as joins
use Rattle.plan_options.specs.declared.join.MaintainOrderJoin.{MaintainOrderJoin}
use Rattle.plan_options.specs.declared.join.MaintainOrderJoin.TheVariants as orders
use Rattle.plan_scan.specs.declared.file_scan.FileScan.{FileScan}
use Rattle.plan_scan.specs.declared.file_scan.FileScan.TheVariants as kinds
use Rattle.plan_scan.specs.Sources.{kind_name}
use Rattle.plan_doc_parts.specs.Parts.{name_of, type_of, type_named, plain_of, plain_named}
use Rattle.plan_doc.specs.Exprs.{operator_of, operator_named, agg_kind_of, agg_named, function_name_of, function_named}
use Rattle.plan_doc_nodes.specs.Joins.{how_of, how_named, coalesce_of, coalesce_named, order_of, order_named, inequality_of, inequality_named}
use Rattle.plan_doc_nodes.specs.Rows.{keep_of, keep_named}
use Rattle.plan_doc_scans.specs.Scans.{kind_of}
use Rattle.plan_text_pieces.specs.Kinds.{type_text, plain_text, operator_text, agg_text, function_text, keep_text, how_text, coalesce_text, order_text, inequality_text}

pub type_again : (t : DataType) → type_of (string (type_text t)) ≡ Some t
unfolding type_of name_of type_named
type_again types.Int64 = refl
type_again types.String = refl
type_again types.Boolean = refl
type_again (types.List plains.Int64) = refl
type_again (types.List plains.String) = refl
type_again (types.List plains.Boolean) = refl

pub plain_again : (t : PlainType) → plain_of (string (plain_text t)) ≡ Some t
unfolding plain_of name_of plain_named
plain_again plains.Int64 = refl
plain_again plains.String = refl
plain_again plains.Boolean = refl

pub operator_again : (o : Operator) → operator_of (string (operator_text o)) ≡ Some o
unfolding operator_of name_of operator_named
operator_again operators.Eq = refl
operator_again operators.NotEq = refl
operator_again operators.Lt = refl
operator_again operators.LtEq = refl
operator_again operators.Gt = refl
operator_again operators.GtEq = refl
operator_again operators.EqValidity = refl
operator_again operators.NotEqValidity = refl
operator_again operators.And = refl
operator_again operators.Or = refl
operator_again operators.Xor = refl
operator_again operators.Plus = refl
operator_again operators.Minus = refl
operator_again operators.Multiply = refl

pub agg_again : (a : IRAggExpr) → agg_kind_of (agg_input a) (string (agg_text a)) ≡ Some a
unfolding agg_kind_of name_of agg_named
agg_again (aggs.Min input) = refl
agg_again (aggs.Max input) = refl
agg_again (aggs.Sum input) = refl
agg_again (aggs.Count input false) = refl
agg_again (aggs.Count input true) = refl
agg_again (aggs.NUnique input) = refl
agg_again (aggs.First input) = refl
agg_again (aggs.Last input) = refl
agg_again (aggs.Implode input) = refl

pub function_again : (f : FunctionExpr) → function_name_of (string (function_text f)) ≡ Some f
unfolding function_name_of name_of function_named
function_again functions.Not = refl
function_again functions.IsNull = refl
function_again functions.IsNotNull = refl
function_again functions.FillNull = refl
function_again functions.Reverse = refl
function_again functions.CumSum = refl

pub keep_again : (k : UniqueKeepStrategy) → keep_of (string (keep_text k)) ≡ Some k
unfolding keep_of name_of keep_named
keep_again keeps.First = refl
keep_again keeps.Last = refl
keep_again keeps.None = refl
keep_again keeps.Any = refl

pub how_again : (h : JoinType) → how_of (string (how_text h)) ≡ Some h
unfolding how_of name_of how_named
how_again joins.Inner = refl
how_again joins.Left = refl
how_again joins.Right = refl
how_again joins.Full = refl
how_again joins.Cross = refl
how_again joins.Semi = refl
how_again joins.Anti = refl
how_again joins.IEJoin = refl

pub coalesce_again : (c : JoinCoalesce) → coalesce_of (string (coalesce_text c)) ≡ Some c
unfolding coalesce_of name_of coalesce_named
coalesce_again coalesces.JoinSpecific = refl
coalesce_again coalesces.CoalesceColumns = refl
coalesce_again coalesces.KeepColumns = refl

pub order_again : (o : MaintainOrderJoin) → order_of (string (order_text o)) ≡ Some o
unfolding order_of name_of order_named
order_again orders.None = refl
order_again orders.Left = refl
order_again orders.Right = refl
order_again orders.LeftRight = refl
order_again orders.RightLeft = refl

pub inequality_again : (o : InequalityOperator) → inequality_of (string (inequality_text o)) ≡ Some o
unfolding inequality_of name_of inequality_named
inequality_again inequalities.Lt = refl
inequality_again inequalities.LtEq = refl
inequality_again inequalities.Gt = refl
inequality_again inequalities.GtEq = refl

pub kind_again : (k : FileScan) → kind_of (string (kind_name k)) ≡ Some k
unfolding kind_of name_of
kind_again kinds.Csv = refl
kind_again kinds.NDJson = refl
kind_again kinds.Parquet = refl
kind_again kinds.Ipc = refl
