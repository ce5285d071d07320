use Rattle.std.proofs.Common.{◌≡◌, ◌∙◌, ◌++◌, ◌∷◌, [], ap, ap₂, refl, sym, Some, Option, List}
use Rattle.std.specs.List.{slice_get}
use Rattle.plan_core.specs.declared.data_type.DataType.{DataType}
use Rattle.plan_expr.specs.Leaves.{Name}
use Rattle.plan_frame.proofs.ScalarExprs.{item_here}
use Rattle.plan_prune_names.specs.Known.{type_in}
use Rattle.plan_prune_names.proofs.KnownLemmas.{over-same, over-then}
use Rattle.plan_prune_names.proofs.MoveLemmas.{fresh-at, left-next, left-one, taken-next}
use Rattle.plan_prune_names.proofs.moved.take_out.Goals as goal

pub loop-name-init : goal.loop-name-init
loop-name-init c = (over-same c.args.columns.now, c.new-types.ensures.items, λ a. refl)

pub loop-name-preserved : goal.loop-name-preserved
loop-name-preserved c =
    let name : Name = c.as_str.result.now in
    let types : Name → Option DataType = type_in c.args.columns.now in
    let here : slice_get c.args.names.now c.loop-name.name-index ≡ Some name = item_here c.args.names.now c.loop-name.name-index c.name-item.result c.loop-name-test.true c.name-item.is ∙ ap (λ (a : Name). Some a) (sym c.as_str.ensures) in
    let was = left-one types (type_in c.loop-name.columns) c.args.names.now c.loop-name.name-index name (fresh-at c.args.names.now c.loop-name.name-index name c.requires here) c.loop-name.invariant.2 in (
      over-then c.args.columns.now c.loop-name.columns c.set.new.self c.loop-name.invariant.0 c.in_ok-set.ensures.over,
      c.in_ok-push.ensures.items
          ∙ ap₂ (λ (l : List (Option DataType)) (d : Option DataType). l ++ d ∷ []) c.loop-name.invariant.1 (c.in_ok-set.ensures.given ∙ was)
          ∙ taken-next types c.args.names.now c.loop-name.name-index name here,
      left-next types (type_in c.loop-name.columns) (type_in c.set.new.self) c.args.names.now c.loop-name.name-index name here c.loop-name.invariant.2 c.in_ok-set.ensures.after,
    )
