-- Expressions: the names that they read, their types, and the names that they give themselves.
use Rattle.std.specs.Prelude.{List, [], ◌∷◌, Bool, true, false, ◌&&◌, Option, Some, None, is_some, option_and_then}
use Rattle.plan_core.specs.Columns.{Columns, type_of}
use Rattle.plan_expr.specs.Leaves.{Name}
use Rattle.plan_core.specs.declared.data_type.DataType.{DataType}
use Rattle.plan_core.specs.declared.data_type.DataType.TheVariants as types
use Rattle.plan_tree.specs.Rose.{Roses, rose, no_roses, more}
use Rattle.plan_expr.specs.Exprs.{ExprOp, column, literal, alias, binary, ternary, aggregate, call, window, len, Expr}
use Rattle.plan_expr.specs.Types.{aggregate_type, all_of, choice_type, function_type, literal_type, operator_type, same_type}

-- a type is there, and it is this one
abbrev pub is_type : Option DataType → DataType → Bool
is_type None t = false
is_type (Some u) t = same_type u t

-- the type of an operator over some columns and operands of these types, if it takes them
abbrev pub op_type : ExprOp → Columns → List DataType → Option DataType
op_type (column name) s ts = type_of s name
op_type (literal value) s ts = Some (literal_type value)
op_type (alias name) s (t ∷ []) = Some t
op_type (binary op) s (t ∷ u ∷ []) = operator_type op t u
op_type ternary s (t ∷ u ∷ p ∷ []) = choice_type p t u
op_type (aggregate op) s (t ∷ []) = aggregate_type op t
op_type (call function options) s ts = function_type function ts
op_type window s (t ∷ keys) = Some t
op_type len s ts = Some types.Int64
op_type _ s ts = None

-- the type of an operator from those of its operands, which must all have one
abbrev pub type_by : ExprOp → List (Option DataType) → Columns → Option DataType
type_by op ts s = option_and_then (op_type op s) (all_of ts)

-- the type of an expression over some columns, if it has one
abbrev mutual
  pub expr_type : Expr → Columns → Option DataType
  expr_type (rose n op es) s = type_by op (expr_types es s) s

  pub expr_types : Roses (Unit {0}) ExprOp → Columns → List (Option DataType)
  expr_types no_roses s = []
  expr_types (more e es) s = expr_type e s ∷ expr_types es s

-- each name is a column's
abbrev pub all_known : List Name → Columns → Bool
all_known [] s = true
all_known (a ∷ names) s = is_some (type_of s a) && all_known names s
