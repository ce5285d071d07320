-- When two expressions are the same tree, told by a test.
use Rattle.std.specs.Prelude.{Bool, true, false, ◌&&◌}
use Rattle.std.specs.Str.{bytes_eq}
use Rattle.plan_tree.specs.Rose.{Roses, rose, no_roses, more}
use Rattle.plan_options.specs.contracts.function.FunctionOptionsPartialEq.TheImpl as options
use Rattle.plan_expr.specs.contracts.agg.AggregatePartialEq.TheImpl as aggregates
use Rattle.plan_expr.specs.contracts.function_expr.FunctionExprPartialEq.TheImpl as functions
use Rattle.plan_expr.specs.contracts.literal.LiteralValuePartialEq.TheImpl as literals
use Rattle.plan_expr.specs.contracts.operator.OperatorPartialEq.TheImpl as operators
use Rattle.plan_expr.specs.Exprs.{ExprOp, column, literal, alias, binary, ternary, aggregate, call, window, len, Expr}

-- whether two operators are the same, with what they hold beside operands
abbrev pub same_op : ExprOp → ExprOp → Bool
same_op (column a) (column b) = bytes_eq a b
same_op (literal v) (literal w) = literals.ghosts.eq v w
same_op (alias a) (alias b) = bytes_eq a b
same_op (binary o) (binary p) = operators.ghosts.eq o p
same_op ternary ternary = true
same_op (aggregate o) (aggregate p) = aggregates.ghosts.eq o p
same_op (call f o) (call g p) = functions.ghosts.eq f g && options.ghosts.eq o p
same_op window window = true
same_op len len = true
same_op _ _ = false

-- whether two expressions are the same tree: the same operators over the same operands
abbrev mutual
  pub same_tree : Expr → Expr → Bool
  same_tree (rose m o xs) (rose n p ys) = same_op o p && same_trees xs ys

  pub same_trees : Roses (Unit {0}) ExprOp → Roses (Unit {0}) ExprOp → Bool
  same_trees no_roses no_roses = true
  same_trees (more x xs) (more y ys) = same_tree x y && same_trees xs ys
  same_trees _ _ = false
