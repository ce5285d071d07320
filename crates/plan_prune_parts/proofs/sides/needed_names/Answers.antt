use Rattle.std.proofs.Common.{◌∙◌, ◌++◌, ◌∷◌, [], List, take, ap, ap₂, sym, append_assoc}
use Rattle.plan_expr.specs.Leaves.{Name}
use Rattle.plan_expr.proofs.ListLemmas.{take-next}
use Rattle.plan_frame.proofs.ScalarExprs.{item_here}
use Rattle.plan_prune_parts.proofs.sides.needed_names.Goals as goal

pub loop-name-preserved : goal.loop-name-preserved
loop-name-preserved c =
    let done : List Name = take c.loop-name.name-index c.as_slice-name-items.result.now in
    let here = item_here c.as_slice-name-items.result.now c.loop-name.name-index c.name-item.result c.loop-name-test.true c.name-item.is in
    c.in_ok-push.ensures.pushed
    ∙ ap₂ (λ (l : List Name) (a : Name). l ++ a ∷ []) c.loop-name.invariant c.in_ok-try_clone.ensures
    ∙ append_assoc c.in_ok-names.names done (c.name-item.result ∷ [])
    ∙ ap (λ (l : List Name). c.in_ok-names.names ++ l) (sym (take-next c.as_slice-name-items.result.now c.loop-name.name-index c.name-item.result here))
