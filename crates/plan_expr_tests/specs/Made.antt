-- What sums and aliases are beside the expressions that they are made of.
use Rattle.std.specs.Prelude.{ℕ, List, Option, None, Some}
use Rattle.plan_dsl.specs.declared.expr.Expr.{Expr}
use Rattle.plan_dsl.specs.declared.expr.Expr.TheVariants.{Alias', BinaryExpr'}
use Rattle.plan_expr.specs.declared.operator.Operator.{Operator}

-- the operator between the two sides of an expression, if it has one
abbrev pub operator_of : Expr → Option Operator
operator_of (BinaryExpr' p left op q right) = Some op
operator_of other = None

-- the name that an expression gives another one, if it gives one
abbrev pub alias_of : Expr → Option (List ℕ)
alias_of (Alias' p expr name) = Some name
alias_of other = None
