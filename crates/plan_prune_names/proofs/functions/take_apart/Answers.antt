use Rattle.std.proofs.Common.{◌≡◌, ◌∙◌, ap, cond, refl, sym, Option, Some}
use Rattle.std.specs.List.{slice_get}
use Rattle.std.specs.Str.{bytes_eq}
use Rattle.plan_core.specs.declared.data_type.DataType.{DataType}
use Rattle.plan_expr.specs.Leaves.{Name}
use Rattle.plan_frame.proofs.ScalarExprs.{item_here}
use Rattle.plan_prune_names.specs.ByName.{item_in}
use Rattle.plan_prune_names.specs.Known.{type_in}
use Rattle.plan_prune_names.proofs.FunctionLemmas.{items-next}
use Rattle.plan_prune_names.proofs.KnownLemmas.{over-same, over-then}
use Rattle.plan_prune_names.proofs.functions.take_apart.Goals as goal

pub loop-name-init : goal.loop-name-init
loop-name-init c = (over-same c.args.columns.now, λ a. refl)

pub loop-name-preserved : goal.loop-name-preserved
loop-name-preserved c =
    let name : Name = c.as_str.result.now in
    let here : slice_get c.args.names.now c.loop-name.name-index ≡ Some name = item_here c.args.names.now c.loop-name.name-index c.name-item.result c.loop-name-test.true c.name-item.is ∙ ap (λ (a : Name). Some a) (sym c.as_str.ensures) in (
      over-then c.args.columns.now c.loop-name.columns c.set.new.self c.loop-name.invariant.0 c.in_ok-set.ensures.over,
      items-next c.args.names.now c.loop-name.name-index name (type_in c.args.columns.now) (type_in c.loop-name.columns) (type_in c.set.new.self) c.item_type-dtype.result here c.loop-name.invariant.1
          (c.item_type-dtype.ensures ∙ ap (λ (d : Option DataType). item_in d) c.get.ensures)
          (λ a. c.in_ok-set.ensures.after a ∙ ap (λ (n : Name). cond (bytes_eq a n) c.item_type-dtype.result (type_in c.loop-name.columns a)) (c.as_str-in-loop-name.ensures ∙ sym c.as_str.ensures)),
    )
