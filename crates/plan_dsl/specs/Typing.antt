-- Which expressions are scalar, which have a form in plans, and their types over some columns.
use Rattle.std.specs.Prelude.{Bool, true, false, not, ◌&&◌, nat_eq, List, [], ◌∷◌, length, Option, Some, None, is_some, option_and_then, if◌then◌else◌}
use Rattle.std.specs.List.{list_all}
use Rattle.plan_core.specs.Columns.{Columns, type_of}
use Rattle.plan_core.specs.declared.data_type.DataType.{DataType}
use Rattle.plan_core.specs.declared.data_type.DataType.TheVariants as types
use Rattle.plan_expr.specs.Types.{aggregate_type, all_of, choice_type, function_type, literal_type, operator_type}
use Rattle.plan_dsl.specs.declared.expr.Expr.{Expr, Row_of-Expr, end_of-Expr, more_of-Expr, items-the_row-Expr}
use Rattle.plan_dsl.specs.declared.expr.Expr.TheVariants as exprs
use Rattle.plan_dsl.specs.declared.expr.AggExpr.{AggExpr}
use Rattle.plan_dsl.specs.declared.expr.AggExpr.TheVariants as aggs
use Rattle.plan_expr.specs.declared.agg.Aggregate.TheVariants as kinds
use Rattle.plan_expr.specs.Functions.{carries_own, inputs_of}
use Rattle.plan_dsl.specs.Walks.{preorder}

-- whether an expression has one value, whatever the frame; kinds that plans don't have are left out
abbrev mutual
  pub is_scalar : Expr → Bool
  is_scalar (exprs.Literal value) = true
  is_scalar exprs.Len = true
  is_scalar (exprs.Agg agg) = true
  is_scalar (exprs.Alias' p e name) = is_scalar e
  is_scalar (exprs.BinaryExpr' p left op q right) = is_scalar left && is_scalar right
  is_scalar (exprs.Ternary' p predicate q truthy r falsy) = is_scalar predicate && (is_scalar truthy && is_scalar falsy)
  is_scalar (exprs.Function' s input function options) = are_scalar input
  is_scalar _ = false

  pub are_scalar : {m : _} → Row_of-Expr m → Bool
  are_scalar end_of-Expr = true
  are_scalar (more_of-Expr e rest) = is_scalar e && are_scalar rest

-- whether an expression is of a kind that plans have, beside those that it is made of: a function carries its own options and has
-- as many inputs as it takes, and a window stands over a scalar expression and has keys
abbrev pub has_own_form : Expr → Bool
has_own_form (exprs.Alias' p e name) = true
has_own_form (exprs.Column name) = true
has_own_form (exprs.Literal value) = true
has_own_form (exprs.BinaryExpr' p left op q right) = true
has_own_form (exprs.Agg agg) = true
has_own_form (exprs.Ternary' p predicate q truthy r falsy) = true
has_own_form (exprs.Function' s input function options) = carries_own function options && nat_eq (length (items-the_row-Expr _ input)) (inputs_of function)
has_own_form (exprs.Window' p function s partition_by) = is_scalar function && not (nat_eq (length (items-the_row-Expr _ partition_by)) 0)
has_own_form exprs.Len = true
has_own_form _ = false

-- whether an expression has a form in plans: each one in it has
abbrev pub has_form : Expr → Bool
has_form e = list_all has_own_form (preorder e)

-- whether an expression is no column that is absent
abbrev pub is_known : Columns → Expr → Bool
is_known s (exprs.Column name) = is_some (type_of s name)
is_known s _ = true

-- whether each column in an expression is one of those
abbrev pub reads_only : Columns → Expr → Bool
reads_only s e = list_all (is_known s) (preorder e)

-- what comes of two values, if they are there
abbrev pub of_two : {X Y : Type 0} → (X → X → Option Y) → Option X → Option X → Option Y
of_two f p q = option_and_then (λ x. option_and_then (f x) q) p

-- what comes of three values, if they are there
abbrev pub of_three : {X Y : Type 0} → (X → X → X → Option Y) → Option X → Option X → Option X → Option Y
of_three f p q r = option_and_then (λ x. of_two (f x) q r) p

-- the type of an expression over some columns, if it has one: each kind has its own from the types of those that it is made of,
-- and a kind that plans don't have has none
abbrev mutual
  pub expr_type : Columns → Expr → Option DataType
  expr_type s (exprs.Alias' p e name) = expr_type s e
  expr_type s (exprs.Column name) = type_of s name
  expr_type s (exprs.Literal value) = Some (literal_type value)
  expr_type s (exprs.BinaryExpr' p left op q right) = of_two (operator_type op) (expr_type s left) (expr_type s right)
  expr_type s (exprs.Agg agg) = agg_type s agg
  expr_type s (exprs.Ternary' p predicate q truthy r falsy) = of_three choice_type (expr_type s predicate) (expr_type s truthy) (expr_type s falsy)
  expr_type s (exprs.Function' n input function options) = option_and_then (function_type function) (all_of (row_types s input))
  expr_type s (exprs.Window' p function n partition_by) = if row_typed s partition_by then expr_type s function else None
  expr_type s exprs.Len = Some types.Int64
  expr_type s _ = None

  pub agg_type : Columns → AggExpr → Option DataType
  agg_type s (aggs.Min' p e) = option_and_then (aggregate_type kinds.Min) (expr_type s e)
  agg_type s (aggs.Max' p e) = option_and_then (aggregate_type kinds.Max) (expr_type s e)
  agg_type s (aggs.Sum' p e) = option_and_then (aggregate_type kinds.Sum) (expr_type s e)
  agg_type s (aggs.Count' p e nulls) = option_and_then (aggregate_type (kinds.Count nulls)) (expr_type s e)
  agg_type s (aggs.NUnique' p e) = option_and_then (aggregate_type kinds.NUnique) (expr_type s e)
  agg_type s (aggs.First' p e) = option_and_then (aggregate_type kinds.First) (expr_type s e)
  agg_type s (aggs.Last' p e) = option_and_then (aggregate_type kinds.Last) (expr_type s e)
  agg_type s (aggs.Implode' p e) = option_and_then (aggregate_type kinds.Implode) (expr_type s e)

  pub row_types : Columns → {m : _} → Row_of-Expr m → List (Option DataType)
  row_types s end_of-Expr = []
  row_types s (more_of-Expr e rest) = expr_type s e ∷ row_types s rest

  pub row_typed : Columns → {m : _} → Row_of-Expr m → Bool
  row_typed s end_of-Expr = true
  row_typed s (more_of-Expr e rest) = is_some (expr_type s e) && row_typed s rest
