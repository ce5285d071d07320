use Rattle.std.proofs.Common.{◌∙◌, ap, arith, List}
use Rattle.plan_core.specs.Columns.{names_of}
use Rattle.plan_core.specs.Names.{with_name}
use Rattle.plan_expr.specs.Leaves.{Name}
use Rattle.plan_pruned.proofs.ListSteps.{name_at, not_past}
use Rattle.plan_pruned.proofs.AddedNames.{added-next}
use Rattle.plan_pruned.proofs.names.add_columns.Goals.{in-Some+in_ok-add, in_default}
use Rattle.plan_pruned.proofs.names.add_columns.Goals as goal

pub loop-i-preserved : goal.loop-i-preserved
loop-i-preserved c =
    elim c.match-get_at_index.branch [
      | in-Some+in_ok-add w ↦
          w.names-is ∙ w.in_ok-add.ensures.after
          ∙ ap (λ (l : List Name). with_name l w.in-Some.name.now) c.loop-i.invariant
          ∙ added-next c.args.names.now (names_of c.args.columns.now) c.loop-i.i w.in-Some.name.now (name_at c.args.columns.now c.loop-i.i w.in-Some.name.now w.in-Some.field-0-1.now w.in-Some.ensures.found)
      | in_default w ↦ absurd (not_past c.args.columns.now c.loop-i.i w.in_default.ensures.none (omega (arith, c.loop-i-test.true, c.len-i-end.ensures.value)))
    ]
