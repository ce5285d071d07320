use Rattle.std.proofs.Common.{◌≡◌, ◌∙◌, ap, sym, arith, rules, true, false, is_some, List}
use Rattle.plan_core.specs.Columns.{names_of, type_of}
use Rattle.plan_core.specs.Names.{has, with_name}
use Rattle.plan_expr.specs.Leaves.{Name}
use Rattle.plan_frame.proofs.NameSets.{some-type_of}
use Rattle.plan_pruned.proofs.ListSteps.{not_past}
use Rattle.plan_pruned.proofs.NameSteps.{where-next, where-skip}
use Rattle.plan_pruned.proofs.functions.known_names.Goals.{in-Some+then-is_some+in_ok-add, in-Some+else-is_some, in_default}
use Rattle.plan_pruned.proofs.functions.known_names.Goals as goal

pub loop-i-preserved : goal.loop-i-preserved
loop-i-preserved c =
    elim c.match-get_at_index.branch [
      | in-Some+then-is_some+in_ok-add w ↦
          (let is : is_some (type_of c.args.columns.now w.in-Some.name.now) ≡ true = search rules in
          let good : has (names_of c.args.columns.now) w.in-Some.name.now ≡ true = sym (some-type_of c.args.columns.now w.in-Some.name.now) ∙ is in
          w.known-is ∙ w.in_ok-add.ensures.after
          ∙ ap (λ (l : List Name). with_name l w.in-Some.name.now) c.loop-i.invariant
          ∙ where-next (has (names_of c.args.columns.now)) c.args.names.now c.loop-i.i w.in-Some.name.now c.len-i-end.ensures.distinct w.in-Some.ensures.found good)
      | in-Some+else-is_some w ↦
          (let is : is_some (type_of c.args.columns.now w.in-Some.name.now) ≡ false = search rules in
          let bad : has (names_of c.args.columns.now) w.in-Some.name.now ≡ false = sym (some-type_of c.args.columns.now w.in-Some.name.now) ∙ is in
          w.known-is ∙ c.loop-i.invariant
          ∙ where-skip (has (names_of c.args.columns.now)) c.args.names.now c.loop-i.i w.in-Some.name.now w.in-Some.ensures.found bad)
      | in_default w ↦ absurd (not_past c.args.names.now c.loop-i.i w.in_default.ensures.none (omega (arith, c.loop-i-test.true, c.len-i-end.ensures.value)))
    ]
