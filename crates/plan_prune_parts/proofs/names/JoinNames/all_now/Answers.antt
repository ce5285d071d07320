use Rattle.std.proofs.Common.{◌∙◌, ◌∷◌, ◌++◌, [], List, ap, ap₂}
use Rattle.plan_expr.specs.Leaves.{Name}
use Rattle.plan_frame.proofs.ScalarExprs.{item_here}
use Rattle.plan_prune_parts.specs.Left.{name_now}
use Rattle.plan_prune_parts.proofs.ListSteps.{map-next}
use Rattle.plan_prune_parts.proofs.names.JoinNames.all_now.Goals as goal

pub loop-name-preserved : goal.loop-name-preserved
loop-name-preserved c =
    c.in_ok-push.ensures.pushed
    ∙ ap₂ (λ (l : List Name) (a : Name). l ++ a ∷ []) c.loop-name.invariant (c.in_ok-now.ensures ∙ ap (name_now c.args.self.now) c.as_str.ensures)
    ∙ map-next (name_now c.args.self.now) c.args.names.now c.loop-name.name-index c.name-item.result (item_here c.args.names.now c.loop-name.name-index c.name-item.result c.loop-name-test.true c.name-item.is)
