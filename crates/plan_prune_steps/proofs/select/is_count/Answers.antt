use Rattle.std.proofs.Common.{ap, sym, subst, All, List}
use Rattle.plan_expr.specs.declared.expr_ir.ExprIR.{ExprIR}
use Rattle.plan_expr.specs.Operands.{IsExpr}
use Rattle.plan_core.specs.declared.arena.Node.{Node}
use Rattle.plan_ir.specs.Parts.{roots_of}
use Rattle.plan_prune_parts.specs.Places.{StandExprs}
use Rattle.plan_prune_parts.proofs.KeptLemmas.{each_stands}
use Rattle.plan_prune_steps.proofs.select.is_count.Goals as goal

pub counts_rows-requires : goal.counts_rows-requires
counts_rows-requires c =
    subst (λ (l : List ExprIR). All (λ (e : ExprIR). IsExpr c.args.ex.now e.node) l) (sym c.as_slice.ensures)
    (each_stands c.args.ex.now c.in-Select.expr (subst (λ (ns : List Node). StandExprs c.args.ex.now ns) (ap roots_of c.in-Select.is) c.requires))
