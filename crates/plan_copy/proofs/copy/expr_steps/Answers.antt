use Rattle.std.proofs.Common.{◌∙◌, ◌++◌, ap, sym, List}
use Rattle.plan_tree.specs.declared.walking.Step.{Step}
use Rattle.plan_tree.specs.Walk.{steps_to}
use Rattle.plan_ir.specs.Parts.{roots_of}
use Rattle.plan_ir.proofs.EntryLemmas.{steps-entries_at-more}
use Rattle.plan_copy.proofs.copy.expr_steps.Goals as goal

pub loop-node-preserved : goal.loop-node-preserved
loop-node-preserved c =
    c.in_ok-step_to_exprs.ensures
    ∙ ap (λ (l : List (Step (Unit {0}))). l ++ steps_to tt (roots_of c.get.result.now)) c.loop-node.invariant
    ∙ sym (steps-entries_at-more tt roots_of c.args.lp.now c.args.nodes.now c.loop-node.node-index (record { 0 = 0 }) c.get.result.now c.loop-node-test.true c.get.ensures.entry)
