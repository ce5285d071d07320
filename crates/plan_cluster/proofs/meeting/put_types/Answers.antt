use Rattle.std.proofs.Common.{◌≡◌, ◌∙◌, ap, sym, rules, Some, None, option_map}
use Rattle.std.specs.List.{slice_get}
use Rattle.std.proofs.lemmas.Option.{slice_get-map}
use Rattle.plan_core.specs.Columns.{Columns, type_of, with_type}
use Rattle.plan_expr.specs.Leaves.{Name}
use Rattle.plan_frame.proofs.ScalarExprs.{item_here}
use Rattle.plan_cluster.specs.ExprNames.{expr_name, expr_names}
use Rattle.plan_cluster.proofs.NameLemmas.{types-next, types-same}
use Rattle.plan_cluster.proofs.meeting.put_types.Goals.{in-Some+in_ok-new+in_ok-with_column, in_default}
use Rattle.plan_cluster.proofs.meeting.put_types.Goals as goal

pub loop-expr-preserved : goal.loop-expr-preserved
loop-expr-preserved c =
    let s = c.args.from.now in
    let es = c.args.exprs.now in
    let i = c.loop-expr.expr-index in
    let a : Name = c.output_name-name.result.now in
    let here : slice_get (expr_names es) i ≡ Some a = slice_get-map expr_name es i ∙ ap (option_map expr_name) (item_here es i c.expr-item.result c.loop-expr-test.true c.expr-item.is) ∙ ap (λ (b : Name). Some b) (sym c.output_name-name.ensures) in
    elim c.match-get.branch [
      | in-Some+in_ok-new+in_ok-with_column w ↦
          (let is : type_of s a ≡ Some w.in-Some.dtype.now = search rules in
          w.to-is ∙ w.in_ok-with_column.ensures.after
          ∙ ap (λ (b : Name). with_type c.loop-expr.to b w.in-Some.dtype.now) w.in_ok-new.ensures
          ∙ ap (λ (l : Columns). with_type l a w.in-Some.dtype.now) c.loop-expr.invariant
          ∙ types-next s c.args.to.now (expr_names es) i a w.in-Some.dtype.now here is)
      | in_default w ↦
          (let is : type_of s a ≡ None = search rules in
          w.to-is ∙ c.loop-expr.invariant ∙ types-same s c.args.to.now (expr_names es) i a here is)
    ]
