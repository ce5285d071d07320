-- Expressions as trees without numbers: what a meaning reads.
use Rattle.std.specs.Prelude.{ℕ, List, [], ◌∷◌, map}
use Rattle.plan_core.specs.declared.arena.Node.{Node}
use Rattle.plan_tree.specs.Stands.{Trees}
use Rattle.plan_tree.specs.Read.{tree_at}
use Rattle.plan_tree.specs.Rose.{Rose, Roses, rose, no_roses, more, map_roses}
use Rattle.plan_expr.specs.declared.aexpr.AExpr.{AExpr}
use Rattle.plan_expr.specs.declared.aexpr.AExpr.TheVariants as exprs
use Rattle.plan_expr.specs.declared.agg.Aggregate.{Aggregate}
use Rattle.plan_expr.specs.declared.expr_ir.ExprIR.{ExprIR}
use Rattle.plan_expr.specs.declared.expr_ir.OutputName.{OutputName}
use Rattle.plan_expr.specs.declared.function_expr.FunctionExpr.{FunctionExpr}
use Rattle.plan_expr.specs.declared.literal.LiteralValue.{LiteralValue}
use Rattle.plan_expr.specs.declared.operator.Operator.{Operator}
use Rattle.plan_options.specs.declared.function.FunctionOptions.{FunctionOptions}
use Rattle.plan_expr.specs.Aggregates.{agg_op}
use Rattle.plan_expr.specs.Operands.{expr_shape}

-- what an expression is beside its operands
pub data ExprOp : Type 0 where
  column : (name : List ℕ) → ExprOp
  literal : (value : LiteralValue) → ExprOp
  alias : (name : List ℕ) → ExprOp
  binary : (op : Operator) → ExprOp
  ternary : ExprOp
  aggregate : (op : Aggregate) → ExprOp
  call : (function : FunctionExpr) (options : FunctionOptions) → ExprOp
  window : ExprOp
  len : ExprOp

-- an expression: an operator over the trees of its operands
abbrev pub Expr : Type 0
Expr = Rose (Unit {0}) ExprOp

-- an expression with its output name
pub record Named : Type 0 where
  pub name : OutputName
  pub expr : Expr

-- what an expression is, without its operands
abbrev pub expr_op : AExpr → ExprOp
expr_op (exprs.Column name) = column name
expr_op (exprs.Literal value) = literal value
expr_op (exprs.Alias input name) = alias name
expr_op (exprs.BinaryExpr left op right) = binary op
expr_op (exprs.Ternary predicate truthy falsy) = ternary
expr_op (exprs.Agg agg) = aggregate (agg_op agg)
expr_op (exprs.Function input function options) = call function options
expr_op (exprs.Window function partition_by) = window
expr_op exprs.Len = len

-- the first of some trees; a column without a name where there is none
abbrev pub one_expr : Roses (Unit {0}) ExprOp → Expr
one_expr no_roses = rose tt (column []) no_roses
one_expr (more e es) = e

-- the expressions that trees in an arena are
abbrev pub bare_exprs : Trees AExpr → Roses (Unit {0}) ExprOp
bare_exprs t = map_roses (λ _. tt) expr_op t

-- the expression that a number reaches
abbrev pub expr_at : List AExpr → Node → Expr
expr_at ex n = one_expr (bare_exprs (tree_at expr_shape ex n))

-- the expressions that numbers reach
abbrev pub exprs_at : List AExpr → List Node → Roses (Unit {0}) ExprOp
exprs_at ex [] = no_roses
exprs_at ex (n ∷ ns) = more (expr_at ex n) (exprs_at ex ns)

-- an expression with the name that it gives, read at its number
abbrev pub named_at : List AExpr → ExprIR → Named
named_at ex e = record { name = e.output_name; expr = expr_at ex e.node }

-- expressions with the names that they give, in order
abbrev pub all_named_at : List AExpr → List ExprIR → List Named
all_named_at ex es = map (named_at ex) es
