use Rattle.std.proofs.Common.{◌≡◌, ◌∙◌, ap, sym, arith, true, false, Bool, is_some, List, Option}
use Rattle.plan_core.specs.Names.{with_name}
use Rattle.plan_core.specs.declared.data_type.DataType.{DataType}
use Rattle.plan_expr.specs.Leaves.{Name}
use Rattle.plan_pruned.proofs.ListSteps.{not_past}
use Rattle.plan_pruned.proofs.NameSteps.{where-next, where-skip}
use Rattle.plan_prune_names.specs.Known.{type_in}
use Rattle.plan_prune_names.proofs.known.known.Goals.{in-Some+then-is_some+in_ok-add, in-Some+else-is_some, in_default}
use Rattle.plan_prune_names.proofs.known.known.Goals as goal

pub loop-i-preserved : goal.loop-i-preserved
loop-i-preserved c =
    let is_column : Name → Bool = λ a. is_some (type_in c.args.columns.now a) in
    elim c.match-get_at_index.branch [
      | in-Some+then-is_some+in_ok-add w ↦
          (let good : is_column w.in-Some.name.now ≡ true = ap (λ (d : Option DataType). is_some d) (sym w.get.ensures) ∙ sym w.if-is_some.ensures in
          w.known-is ∙ w.in_ok-add.ensures.after
          ∙ ap (λ (l : List Name). with_name l w.in-Some.name.now) c.loop-i.invariant
          ∙ where-next is_column c.args.names.now c.loop-i.i w.in-Some.name.now c.len-i-end.ensures.distinct w.in-Some.ensures.found good)
      | in-Some+else-is_some w ↦
          (let bad : is_column w.in-Some.name.now ≡ false = ap (λ (d : Option DataType). is_some d) (sym w.get.ensures) ∙ sym w.if-is_some.ensures in
          w.known-is ∙ c.loop-i.invariant
          ∙ where-skip is_column c.args.names.now c.loop-i.i w.in-Some.name.now w.in-Some.ensures.found bad)
      | in_default w ↦ absurd (not_past c.args.names.now c.loop-i.i w.in_default.ensures.none (omega (arith, c.loop-i-test.true, c.len-i-end.ensures.value)))
    ]
