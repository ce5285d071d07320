-- Which expressions have one value, whatever the frame.
use Rattle.std.specs.Prelude.{Bool, true, false, ◌&&◌}
use Rattle.plan_tree.specs.Rose.{Roses, rose, no_roses, more}
use Rattle.plan_expr.specs.Exprs.{ExprOp, column, literal, alias, binary, ternary, aggregate, call, window, len, Expr}

-- whether an operator gives one value, from whether its operands all are scalar
abbrev pub scalar_by : ExprOp → Bool → Bool
scalar_by (column name) all = false
scalar_by (literal value) all = true
scalar_by (alias name) all = all
scalar_by (binary op) all = all
scalar_by ternary all = all
scalar_by (aggregate op) all = true
scalar_by (call function options) all = all
scalar_by window all = false
scalar_by len all = true

-- whether an expression has one value, whatever the frame
abbrev mutual
  pub is_scalar : Expr → Bool
  is_scalar (rose n op es) = scalar_by op (are_scalar es)

  pub are_scalar : Roses (Unit {0}) ExprOp → Bool
  are_scalar no_roses = true
  are_scalar (more e es) = is_scalar e && are_scalar es
