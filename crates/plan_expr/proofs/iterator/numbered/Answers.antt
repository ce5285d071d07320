use Rattle.std.proofs.Common.{◌∙◌, ◌++◌, ◌∷◌, [], List, map, get_or, ap, sym}
use Rattle.std.proofs.lemmas.List.{map-append}
use Rattle.plan_core.specs.declared.arena.Node.{Node}
use Rattle.plan_expr.specs.declared.aexpr.AExpr.{AExpr}
use Rattle.plan_expr.proofs.WalkLemmas.{numbered_at-more}
use Rattle.plan_expr.proofs.iterator.numbered.Goals as goal

pub loop-node-preserved : goal.loop-node-preserved
loop-node-preserved c =
    let n : Node = get_or c.args.listed.now c.loop-node.node-index (record { 0 = 0 }) in
    ap (map (λ q. (q.0, q.1.now))) c.in_ok-push.ensures.items
    ∙ map-append (λ q. (q.0, q.1.now)) c.loop-node.nodes.items ((n, c.get.result) ∷ [])
    ∙ ap (λ (l : List (Node × AExpr)). l ++ (n, c.get.result.now) ∷ []) c.loop-node.invariant
    ∙ sym (numbered_at-more c.args.ex.now c.args.listed.now c.loop-node.node-index (record { 0 = 0 }) c.get.result.now c.loop-node-test.true c.get.ensures.entry)
