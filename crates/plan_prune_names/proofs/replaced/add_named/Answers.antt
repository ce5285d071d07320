use Rattle.std.proofs.Common.{◌≡◌, ◌∙◌, ap, cond, sym, Some}
use Rattle.std.specs.List.{slice_get}
use Rattle.std.specs.Str.{bytes_eq}
use Rattle.plan_core.specs.Columns.{Columns, type_of}
use Rattle.plan_expr.specs.Leaves.{Name}
use Rattle.plan_frame.proofs.MadeColumns.{type_of-with_type}
use Rattle.plan_frame.proofs.ScalarExprs.{item_here}
use Rattle.plan_prune_names.specs.Known.{type_in}
use Rattle.plan_prune_names.proofs.ReplaceLemmas.{kept, named-next}
use Rattle.plan_prune_names.proofs.replaced.add_named.Goals as goal

pub loop-name-preserved : goal.loop-name-preserved
loop-name-preserved c =
    let name : Name = c.as_str.result.now in
    let here : slice_get c.args.names.now c.loop-name.name-index ≡ Some name = item_here c.args.names.now c.loop-name.name-index c.name-item.result c.loop-name-test.true c.name-item.is ∙ ap (λ (a : Name). Some a) (sym c.as_str.ensures) in
    let has_type : type_in c.args.columns.now name ≡ Some c.in-Some.dtype = sym c.get.ensures ∙ c.in-Some.is in
    let after : (a : Name) → type_of c.with_column.new.self a ≡ cond (bytes_eq a name) (Some c.in-Some.dtype) (type_of c.loop-name.part a) = λ a.
    ap (λ (s : Columns). type_of s a) c.in_ok-with_column.ensures.after
    ∙ type_of-with_type c.loop-name.part c.in_ok-new.field-0 c.in-Some.dtype a
    ∙ ap (λ (n : Name). cond (bytes_eq a n) (Some c.in-Some.dtype) (type_of c.loop-name.part a)) (c.in_ok-new.ensures ∙ c.as_str-in-loop-name.ensures ∙ sym c.as_str.ensures) in (
      named-next (type_in c.args.columns.now) (type_of c.loop-name.part) (type_of c.with_column.new.self) c.args.names.now c.loop-name.name-index name c.in-Some.dtype here has_type after c.loop-name.invariant.0,
      λ a e. kept (type_in c.args.columns.now) (type_of c.loop-name.part) (type_of c.with_column.new.self) name c.in-Some.dtype has_type after a (c.loop-name.invariant.1 a e),
    )
