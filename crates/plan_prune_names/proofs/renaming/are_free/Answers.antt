use Rattle.std.proofs.Common.{◌≡◌, ◌<◌, ◌∙◌, [], ap, sym, subst, arith, is_some, true, false, length, Some, Option, List, get_or}
use Rattle.std.specs.List.{slice_get}
use Rattle.std.proofs.lemmas.Option.{slice_get-get_or}
use Rattle.plan_core.specs.declared.data_type.DataType.{DataType}
use Rattle.plan_core.specs.Names.{has}
use Rattle.plan_expr.specs.Leaves.{Name}
use Rattle.plan_frame.proofs.ScalarExprs.{item_here}
use Rattle.plan_prune_names.specs.Known.{type_in}
use Rattle.plan_prune_names.proofs.MoveLemmas.{fresh-at}
use Rattle.plan_prune_names.proofs.RenamingParts.{free-next}
use Rattle.plan_prune_names.proofs.renaming.are_free.Goals.{else-is_some-via-then-is_some+else-not-is_free, else-is_some-via-else-is_some}
use Rattle.plan_prune_names.proofs.renaming.are_free.Goals as goal

pub loop-i-preserved : goal.loop-i-preserved
loop-i-preserved c =
    let i = c.loop-i.i in
    let types : Name → Option DataType = type_in c.args.columns.now in
    let old : Name = c.as_str.result.now in
    let lower : i < length c.args.existing.now = omega (arith, c.loop-i-test.true) in
    let within : i < length c.args.new.now = omega (arith, lower, c.requires.same) in
    let here : slice_get c.args.existing.now i ≡ Some old = item_here c.args.existing.now i c.index-existing-i.result lower c.index-existing-i.is ∙ ap (λ (a : Name). Some a) (sym c.as_str.ensures) in
    elim c.else-is_some.branch [
      | else-is_some-via-then-is_some+else-not-is_free w ↦
          (let name : Name = w.as_str-then-is_some.result.now in
          let there : slice_get c.args.new.now i ≡ Some name = item_here c.args.new.now i w.index-new-i.result within w.index-new-i.is ∙ ap (λ (a : Name). Some a) (sym w.as_str-then-is_some.ensures) in
          free-next c.args.existing.now c.args.new.now types i old name here there (fresh-at c.args.new.now i name c.requires.distinct there)
          (λ some absent. w.is_free.ensures.free w.if-not-is_free.false (subst (λ (l : List Name). has l name ≡ false) (sym c.requires.old) absent))
          c.loop-i.invariant)
      | else-is_some-via-else-is_some w ↦
          (let name : Name = get_or c.args.new.now i [] in
          let there : slice_get c.args.new.now i ≡ Some name = slice_get-get_or c.args.new.now i [] within in
          let none : is_some (types old) ≡ false = ap (λ (d : Option DataType). is_some d) (sym c.get.ensures) ∙ sym c.is_some.ensures ∙ w.if-is_some.false in
          free-next c.args.existing.now c.args.new.now types i old name here there (fresh-at c.args.new.now i name c.requires.distinct there)
          (λ some absent. let yes : is_some (types old) ≡ true = some in cc)
          c.loop-i.invariant)
    ]
