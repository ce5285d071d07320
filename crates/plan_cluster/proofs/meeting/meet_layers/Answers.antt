use Rattle.std.proofs.Common.{All, subst}
use Rattle.plan_expr.specs.declared.expr_ir.ExprIR.{ExprIR}
use Rattle.plan_expr.specs.Operands.{IsExpr}
use Rattle.plan_cluster.specs.Layers.{layer_exprs}
use Rattle.plan_cluster.specs.declared.layer.Layer.{Layer}
use Rattle.plan_cluster.proofs.meeting.meet_layers.Goals as goal

pub meet-requires-clause-stand : goal.meet-requires-clause-stand
meet-requires-clause-stand c = subst (λ (l : Layer). All (λ (e : ExprIR). IsExpr c.args.ex.now e.node) (layer_exprs l)) c.in-Adds.is c.requires.stand
