-- Which expressions have a form: functions with their own options and as many inputs as they take, and windows over a scalar expression, with keys.
use Rattle.std.specs.Prelude.{Bool, true, false, ◌&&◌, nat_eq, List, [], ◌∷◌, length}
use Rattle.plan_tree.specs.Rose.{Roses, rose, no_roses, more}
use Rattle.plan_expr.specs.Exprs.{ExprOp, column, literal, alias, binary, ternary, aggregate, call, window, len, Expr}
use Rattle.plan_expr.specs.Functions.{carries_own, inputs_of}
use Rattle.plan_expr.specs.Scalars.{is_scalar}

-- whether each of several expressions is scalar
abbrev pub scalars : Roses (Unit {0}) ExprOp → List Bool
scalars no_roses = []
scalars (more e es) = is_scalar e ∷ scalars es

-- whether the first of several is scalar, and others follow
abbrev pub is_windowed : List Bool → Bool
is_windowed [] = false
is_windowed (scalar ∷ []) = false
is_windowed (scalar ∷ key ∷ keys) = scalar

-- whether an operator may stand over operands, from whether each is scalar
abbrev pub form_by : ExprOp → List Bool → Bool
form_by (column name) bs = true
form_by (literal value) bs = true
form_by (alias name) bs = true
form_by (binary op) bs = true
form_by ternary bs = true
form_by (aggregate op) bs = true
form_by (call function options) bs = carries_own function options && nat_eq (length bs) (inputs_of function)
form_by window bs = is_windowed bs
form_by len bs = true

-- whether an expression has a form: each operator in it may stand over its operands
abbrev mutual
  pub has_form : Expr → Bool
  has_form (rose n op es) = form_by op (scalars es) && have_form es

  pub have_form : Roses (Unit {0}) ExprOp → Bool
  have_form no_roses = true
  have_form (more e es) = has_form e && have_form es
