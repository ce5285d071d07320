-- The expressions up to here are named so.
use Rattle.std.proofs.Common.{◌≡◌, map, take}
use Rattle.plan_core.specs.declared.arena.Node.{Node}
use Rattle.plan_expr.specs.declared.expr_ir.ExprIR.{ExprIR}
use Rattle.plan_expr.specs.Exprs.{all_named_at, expr_at}
use Rattle.plan_collapse_laws.specs.TakenKeys.{self_named}
use Rattle.plan_collapse.proofs.named.all_self_named.Given as goal

abbrev pub invariant-loop-node : goal.invariant-loop-node
invariant-loop-node l =
    (all_named_at l.ex l.exprs ≡ map (λ (n : Node). self_named (expr_at l.ex n)) (take l.node-index l.nodes))
    × (map (λ (e : ExprIR). e.node) l.exprs ≡ take l.node-index l.nodes)
