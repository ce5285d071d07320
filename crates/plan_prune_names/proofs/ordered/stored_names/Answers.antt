use Rattle.std.proofs.Common.{◌∙◌, ◌+◌, ◌++◌, ◌∷◌, [], ap₂, arith, sym, List}
use Rattle.std.proofs.lemmas.List.{take-map}
use Rattle.plan_core.specs.declared.data_type.DataType.{DataType}
use Rattle.plan_core.specs.Columns.{names_of}
use Rattle.plan_expr.specs.Leaves.{Name}
use Rattle.plan_pruned.proofs.ListSteps.{name_at, not_past, take-next}
use Rattle.plan_prune_names.proofs.ordered.stored_names.Goals.{in-Some+in_ok-new+in_ok-push, in_default}
use Rattle.plan_prune_names.proofs.ordered.stored_names.Goals as goal

pub loop-i-preserved : goal.loop-i-preserved
loop-i-preserved c =
    let s = c.args.columns.now in
    let i = c.loop-i.i in
    elim c.match-get_at_index.branch [
      | in-Some+in_ok-new+in_ok-push w ↦
          (let n : Name = w.in-Some.name.now in
          w.names-is ∙ w.in_ok-push.ensures.pushed
          ∙ ap₂ (λ (ns : List Name) (a : Name). ns ++ a ∷ []) (c.loop-i.invariant ∙ sym (take-map (λ (c : Name × DataType). c.0) i s)) w.in_ok-new.ensures
          ∙ sym (take-next (names_of s) i n (name_at s i n _ w.in-Some.ensures.found))
          ∙ take-map (λ (c : Name × DataType). c.0) (i + 1) s)
      | in_default w ↦ absurd (not_past s i w.in_default.ensures.none (omega (arith, c.loop-i-test.true, c.len-i-end.ensures.value)))
    ]
