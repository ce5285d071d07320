-- The names that an expression reads.
use Rattle.std.specs.Prelude.{ℕ, List, [], ◌∷◌, ◌++◌}
use Rattle.plan_tree.specs.Rose.{Roses, rose, no_roses, more}
use Rattle.plan_expr.specs.Exprs.{ExprOp, column, literal, alias, binary, ternary, aggregate, call, window, len, Expr}

-- the bytes of a name
abbrev pub Name : Type 0
Name = List ℕ

-- the names that an operator reads by itself
abbrev pub own_leaves : ExprOp → List Name
own_leaves (column name) = name ∷ []
own_leaves (literal value) = []
own_leaves (alias name) = []
own_leaves (binary op) = []
own_leaves ternary = []
own_leaves (aggregate op) = []
own_leaves (call function options) = []
own_leaves window = []
own_leaves len = []

-- the names of the columns of an expression, in walk order
abbrev mutual
  pub leaves : Expr → List Name
  leaves (rose n op es) = own_leaves op ++ leaves_all es

  pub leaves_all : Roses (Unit {0}) ExprOp → List Name
  leaves_all no_roses = []
  leaves_all (more e es) = leaves e ++ leaves_all es
