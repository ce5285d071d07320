use Rattle.std.proofs.Common.{◌∙◌, ◌++◌, ap, sym, List, slice_index_or}
use Rattle.plan_core.specs.declared.arena.Node.{Node}
use Rattle.plan_core.specs.declared.error.At.{At}
use Rattle.plan_tree.specs.declared.walking.Step.{Step}
use Rattle.plan_meaning.specs.TreeFaults.{marked_at}
use Rattle.plan_check.proofs.TreeFaultLemmas.{exprs-more, read-any}
use Rattle.plan_check.proofs.tree.marked_exprs.Goals as goal

pub loop-node-preserved : goal.loop-node-preserved
loop-node-preserved c =
    let ns = c.args.nodes.now in
    let k = c.loop-node.node-index in
    let n : Node = slice_index_or ns k (record { 0 = 0 }) in
    c.in_ok-mark_node.ensures
    ∙ ap (λ (l : List (Step At)). l ++ marked_at c.args.lp.now n) c.loop-node.invariant
    ∙ sym (exprs-more c.args.lp.now ns k n c.loop-node-test.true (read-any ns k _ n c.loop-node-test.true))
