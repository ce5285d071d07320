use Rattle.std.proofs.Common.{◌≡◌, ◌∙◌, ap, sym, arith, rules, true, false, is_some}
use Rattle.plan_core.specs.Columns.{Columns, names_of, type_of, with_type}
use Rattle.plan_core.specs.Names.{has}
use Rattle.plan_expr.specs.Leaves.{Name}
use Rattle.plan_frame.specs.Beside.{with_new}
use Rattle.plan_frame.proofs.NameSets.{some-type_of}
use Rattle.plan_pruned.proofs.ListSteps.{not_past}
use Rattle.plan_prune_steps.proofs.ConcatParts.{new_last, new_there, new-next}
use Rattle.plan_prune_steps.proofs.hconcat.add_new.Goals.{in-Some+then-is_none+in_ok-new+in_ok-with_column, in-Some+else-is_none, in_default}
use Rattle.plan_prune_steps.proofs.hconcat.add_new.Goals as goal

pub loop-i-preserved : goal.loop-i-preserved
loop-i-preserved c =
    elim c.match-get_at_index.branch [
      | in-Some+then-is_none+in_ok-new+in_ok-with_column w ↦
          (let s : Columns = c.loop-i.columns in
          let is : is_some (type_of s w.in-Some.name.now) ≡ false = search rules in
          let bad : has (names_of s) w.in-Some.name.now ≡ false = sym (some-type_of s w.in-Some.name.now) ∙ is in
          w.columns-is ∙ w.in_ok-with_column.ensures.after
          ∙ ap (λ (a : Name). with_type s a w.in-Some.dtype.now) w.in_ok-new.ensures
          ∙ new_last s w.in-Some.name.now w.in-Some.dtype.now bad
          ∙ ap (λ (t : Columns). with_new t (w.in-Some.name.now, w.in-Some.dtype.now)) c.loop-i.invariant
          ∙ new-next c.args.columns.now c.args.more.now c.loop-i.i (w.in-Some.name.now, w.in-Some.dtype.now) w.in-Some.ensures.found)
      | in-Some+else-is_none w ↦
          (let s : Columns = c.loop-i.columns in
          let is : is_some (type_of s w.in-Some.name.now) ≡ true = search rules in
          let good : has (names_of s) w.in-Some.name.now ≡ true = sym (some-type_of s w.in-Some.name.now) ∙ is in
          w.columns-is ∙ new_there s w.in-Some.name.now w.in-Some.dtype.now good
          ∙ ap (λ (t : Columns). with_new t (w.in-Some.name.now, w.in-Some.dtype.now)) c.loop-i.invariant
          ∙ new-next c.args.columns.now c.args.more.now c.loop-i.i (w.in-Some.name.now, w.in-Some.dtype.now) w.in-Some.ensures.found)
      | in_default w ↦ absurd (not_past c.args.more.now c.loop-i.i w.in_default.ensures.none (omega (arith, c.loop-i-test.true, c.len-i-end.ensures.value)))
    ]
