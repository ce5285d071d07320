use Rattle.std.proofs.Common.{List, All, sym, subst}
use Rattle.plan_expr.specs.declared.expr_ir.ExprIR.{ExprIR}
use Rattle.plan_expr.specs.Operands.{IsExpr}
use Rattle.plan_ir.specs.declared.ir.IR.{IR}
use Rattle.plan_ir.specs.Parts.{roots_of}
use Rattle.plan_prune_parts.specs.Places.{StandExprs}
use Rattle.plan_prune_joins.proofs.JoinParts.{join_stands}
use Rattle.plan_prune_joins.proofs.join.prepare_unasked.Goals as goal

pub asks_unasked-requires : goal.asks_unasked-requires
asks_unasked-requires c = subst (λ (l : List ExprIR). All (λ (x : ExprIR). IsExpr c.args.ex.now x.node) l) (sym c.as_slice.ensures) (join_stands c.args.ex.now c.in-Join.input_left c.in-Join.input_right c.in-Join.schema c.in-Join.left_on c.in-Join.right_on c.in-Join.options (subst (λ (p : IR). StandExprs c.args.ex.now (roots_of p)) c.in-Join.is c.requires.exprs)).right
