use Rattle.std.proofs.Common.{sym, All, List, subst}
use Rattle.plan_expr.specs.declared.expr_ir.ExprIR.{ExprIR}
use Rattle.plan_expr.specs.Operands.{IsExpr}
use Rattle.plan_prune_steps.proofs.select.add_many.Goals as goal

pub all_scalar-requires : goal.all_scalar-requires
all_scalar-requires c = subst (λ (l : List ExprIR). All (λ (e : ExprIR). IsExpr c.args.ex.now e.node) l) (sym c.as_slice.ensures) c.requires.kept
