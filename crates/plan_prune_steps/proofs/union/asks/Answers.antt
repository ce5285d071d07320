use Rattle.std.proofs.Common.{◌∙◌, List, [], ◌∷◌, ◌++◌, ap₂, sym}
use Rattle.plan_expr.specs.Leaves.{Name}
use Rattle.plan_prune_steps.proofs.AlikeLemmas.{alike-next}
use Rattle.plan_prune_steps.proofs.union.asks.Goals as goal

pub loop-preserved : goal.loop-preserved
loop-preserved c =
    c.in_ok-push.ensures.pushed
    ∙ ap₂ (λ (l : List (List Name)) (names : List Name). l ++ names ∷ []) c.loop.invariant c.in_ok-copied_names.ensures
    ∙ sym (alike-next c.args.asked.now c.args.inputs.now c.loop.index c.loop-test.true)
