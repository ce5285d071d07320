use Rattle.std.proofs.Common.{◌∙◌, ap, arith, List}
use Rattle.plan_core.specs.Columns.{names_of}
use Rattle.plan_core.specs.Names.{with_name}
use Rattle.plan_expr.specs.Leaves.{Name}
use Rattle.plan_meaning.specs.Functions.{renamed}
use Rattle.plan_pruned.proofs.ListSteps.{not_past}
use Rattle.plan_pruned.proofs.NameSteps.{former-next, former-skip}
use Rattle.plan_prune_names.proofs.RenamingParts.{former-shown}
use Rattle.plan_prune_names.proofs.renaming.old_names.Goals.{in-Some+in-Some-old_name+in_ok-add, in-Some+in_default-old_name, in_default}
use Rattle.plan_prune_names.proofs.renaming.old_names.Goals as goal

pub loop-i-preserved : goal.loop-i-preserved
loop-i-preserved c = λ s shows.
    let now : Name → Name = renamed c.args.existing.now c.args.new.now in
    let columns : List Name = names_of s in
    let is = λ (a : Name). former-shown c.args.existing.now c.args.new.now c.requires.same c.requires.distinct.0 c.requires.distinct.1 c.args.columns.now s a c.requires.free shows in
    elim c.match-get_at_index.branch [
      | in-Some+in-Some-old_name+in_ok-add w ↦
          w.names-is ∙ w.in_ok-add.ensures.after
          ∙ ap (λ (l : List Name). with_name l w.in-Some-old_name.before.now) (c.loop-i.invariant s shows)
          ∙ former-next now columns c.args.asked.now c.loop-i.i w.in-Some.name.now w.in-Some.ensures.found w.in-Some-old_name.before.now c.len-i-end.ensures.distinct (is w.in-Some.name.now ∙ w.in-Some-old_name.ensures.some)
      | in-Some+in_default-old_name w ↦
          w.names-is ∙ c.loop-i.invariant s shows
          ∙ former-skip now columns c.args.asked.now c.loop-i.i w.in-Some.name.now w.in-Some.ensures.found (is w.in-Some.name.now ∙ w.in_default-old_name.ensures.none)
      | in_default w ↦ absurd (not_past c.args.asked.now c.loop-i.i w.in_default.ensures.none (omega (arith, c.loop-i-test.true, c.len-i-end.ensures.value)))
    ]
