-- Predicates that are an Or with true on its left side.
use Rattle.std.specs.Prelude.{Bool, true, false, ◌&&◌, nat_eq, Option, Some, None}
use Rattle.plan_core.specs.declared.arena.Node.{Node}
use Rattle.plan_tree.specs.Rose.{Roses, rose, no_roses, more}
use Rattle.plan_expr.specs.declared.aexpr.AExpr.{AExpr}
use Rattle.plan_expr.specs.declared.aexpr.AExpr.TheVariants.{BinaryExpr}
use Rattle.plan_expr.specs.declared.operator.Operator.TheVariants.{Or}
use Rattle.plan_expr.specs.Exprs.{ExprOp, binary, Expr}
use Rattle.plan_ir.specs.declared.ir.IR.{IR}
use Rattle.plan_ir.specs.declared.ir.IR.TheVariants.{Filter}
use Rattle.plan_pass_laws.specs.Answers.{is_true_literal}

-- a filter by the expression of a number
abbrev pub filters_by : IR → Node → Bool
filters_by (Filter input predicate) n = nat_eq predicate.node.0 n.0
filters_by other n = false

-- the number of the left side of an Or; none for other expressions
abbrev pub or_left : AExpr → Option Node
or_left (BinaryExpr left Or right) = Some left
or_left other = None

-- an operator is Or
abbrev pub is_or_op : ExprOp → Bool
is_or_op (binary Or) = true
is_or_op op = false

-- the first of two expressions is the literal true
abbrev pub first_is_true : Roses (Unit {0}) ExprOp → Bool
first_is_true (more e (more f no_roses)) = is_true_literal e
first_is_true es = false

-- an Or whose left side is the literal true
abbrev pub is_true_or : Expr → Bool
is_true_or (rose n op es) = is_or_op op && first_is_true es
