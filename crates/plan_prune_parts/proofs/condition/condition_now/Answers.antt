use Rattle.std.proofs.Common.{ap₂}
use Rattle.plan_expr.specs.declared.expr_ir.OutputName.{OutputName}
use Rattle.plan_expr.specs.Exprs.{Expr}
use Rattle.plan_prune_parts.proofs.condition.condition_now.Goals as goal

pub returns-clause-condition : goal.returns-clause-condition
returns-clause-condition c = ap₂ (λ (o : OutputName) (e : Expr). record { name = o; expr = e }) c.in_ok-output_name.ensures c.in_ok-node.ensures.expr
