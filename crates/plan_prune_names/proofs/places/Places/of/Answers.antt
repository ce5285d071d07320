use Rattle.std.proofs.Common.{◌∙◌, ap, sym, arith, List, take}
use Rattle.plan_core.specs.Names.{with_name}
use Rattle.plan_expr.specs.Leaves.{Name}
use Rattle.plan_pruned.proofs.ListSteps.{before_differ, not_past, take-next, with_name-last}
use Rattle.plan_prune_names.proofs.places.Places.of.Goals.{in-Some+in_ok-add, in_default}
use Rattle.plan_prune_names.proofs.places.Places.of.Goals as goal

pub loop-i-preserved : goal.loop-i-preserved
loop-i-preserved c =
    elim c.match-get_at_index.branch [
      | in-Some+in_ok-add w ↦
          w.places-is ∙ w.in_ok-add.ensures
          ∙ ap (λ (l : List Name). with_name l w.in-Some.name.now) c.loop-i.invariant
          ∙ with_name-last (take c.loop-i.i c.args.names.now) w.in-Some.name.now (before_differ c.args.names.now c.loop-i.i w.in-Some.name.now c.len-i-end.ensures.distinct w.in-Some.ensures.found)
          ∙ sym (take-next c.args.names.now c.loop-i.i w.in-Some.name.now w.in-Some.ensures.found)
      | in_default w ↦ absurd (not_past c.args.names.now c.loop-i.i w.in_default.ensures.none (omega (arith, c.loop-i-test.true, c.len-i-end.ensures.value)))
    ]
