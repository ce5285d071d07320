use Rattle.std.proofs.Common.{◌∙◌, ap₂, sym, arith, List, [], ◌∷◌, ◌++◌}
use Rattle.plan_expr.specs.Leaves.{Name}
use Rattle.plan_pruned.proofs.ListSteps.{take-next, not_past}
use Rattle.plan_pruned.proofs.names.listed_names.Goals.{in-Some+in_ok-new+in_ok-push, in_default}
use Rattle.plan_pruned.proofs.names.listed_names.Goals as goal

pub loop-i-preserved : goal.loop-i-preserved
loop-i-preserved c =
    elim c.match-get_at_index.branch [
      | in-Some+in_ok-new+in_ok-push w ↦
          w.list-is ∙ w.in_ok-push.ensures.pushed
          ∙ ap₂ (λ (l : List Name) (a : Name). l ++ a ∷ []) c.loop-i.invariant w.in_ok-new.ensures
          ∙ sym (take-next c.args.names.now c.loop-i.i w.in-Some.name.now w.in-Some.ensures.found)
      | in_default w ↦ absurd (not_past c.args.names.now c.loop-i.i w.in_default.ensures.none (omega (arith, c.loop-i-test.true, c.len-i-end.ensures.value)))
    ]
