use Rattle.std.proofs.Common.{◌≡◌, ◌∙◌, ap, ap₂, sym, take, Some}
use Rattle.std.specs.List.{slice_get}
use Rattle.plan_core.specs.declared.data_type.DataType.{DataType}
use Rattle.plan_core.specs.Columns.{Columns, type_of, with_type}
use Rattle.plan_expr.specs.Leaves.{Name}
use Rattle.plan_frame.specs.Reshaped.{exploded_columns, item_type}
use Rattle.plan_frame.proofs.ScalarExprs.{item_here}
use Rattle.plan_check.proofs.InPlaceLemmas.{apart-next, apart-none, apart-skip}
use Rattle.plan_check.proofs.mapped.take_apart.Goals.{in-Some+in_ok-try_clone+in_ok-with_column, in_default}
use Rattle.plan_check.proofs.mapped.take_apart.Goals as goal

pub loop-name-init : goal.loop-name-init
loop-name-init c = sym (apart-none c.args.columns.now)

pub loop-name-preserved : goal.loop-name-preserved
loop-name-preserved c =
    let name : Name = c.as_str.result.now in
    let s : Columns = c.args.columns.now in
    let here : slice_get c.args.names.now c.loop-name.name-index ≡ Some name = item_here c.args.names.now c.loop-name.name-index c.name-item.result c.loop-name-test.true c.name-item.is ∙ ap (λ (a : Name). Some a) (sym c.as_str.ensures) in
    let so_far : c.loop-name.columns ≡ exploded_columns (take c.loop-name.name-index c.args.names.now) s = c.loop-name.invariant in
    let found : type_of (exploded_columns (take c.loop-name.name-index c.args.names.now) s) name ≡ c.copied.result = ap (λ (t : Columns). type_of t name) (sym so_far) ∙ sym c.get.ensures ∙ sym c.copied.ensures in
    elim c.match-copied.branch [
      | in-Some+in_ok-try_clone+in_ok-with_column w ↦
          w.columns-is ∙ w.in_ok-with_column.ensures.after
          ∙ ap₂ (λ (a : Name) (t : DataType). with_type c.loop-name.columns a t) (w.in_ok-try_clone.ensures ∙ sym c.as_str.ensures) w.item_type.ensures
          ∙ ap (λ (t : Columns). with_type t name (item_type w.in-Some.dtype)) so_far
          ∙ apart-next c.args.names.now c.loop-name.name-index name s here w.in-Some.dtype c.len-len.ensures.distinct (found ∙ w.in-Some.is)
      | in_default w ↦
          w.columns-is ∙ so_far
          ∙ apart-skip c.args.names.now c.loop-name.name-index name s here (found ∙ w.in_default.is)
    ]
