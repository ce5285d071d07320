use Rattle.std.proofs.Common.{◌≡◌, ◌∙◌, ◌+◌, ◌&&◌, Bool, false, ap, ap₂, sym, List, Some, option_map, take}
use Rattle.std.specs.List.{filter as only_where, slice_get}
use Rattle.std.proofs.lemmas.Option.{slice_get-map}
use Rattle.plan_core.specs.Names.{has, with_name, with_names}
use Rattle.plan_expr.specs.Leaves.{Name}
use Rattle.plan_frame.proofs.ScalarExprs.{item_here}
use Rattle.plan_cluster.specs.ExprNames.{expr_name, expr_names}
use Rattle.plan_cluster.specs.Found.{remade_and_read}
use Rattle.plan_cluster.proofs.NameLemmas.{where-more, where-same, with_names-last}
use Rattle.plan_cluster.proofs.staying.add_remakers.Goals.{else-contains, else-contains-via-else-contains, else-contains-via-then-contains+else-contains-2, then-contains+then-contains-2+in_ok-add}
use Rattle.plan_cluster.proofs.staying.add_remakers.Goals as goal

pub loop-expr-preserved : goal.loop-expr-preserved
loop-expr-preserved c =
    let es = c.args.upper.now in
    let i = c.loop-expr.expr-index in
    let e = c.expr-item.result in
    let a : Name = c.output_name-name.result.now in
    let p = remade_and_read c.args.lower.now c.args.read.now in
    let here : slice_get (expr_names es) i ≡ Some a = slice_get-map expr_name es i ∙ ap (option_map expr_name) (item_here es i e c.loop-expr-test.true c.expr-item.is) ∙ ap (λ (b : Name). Some b) (sym c.output_name-name.ensures) in
    let same : p a ≡ false → with_names c.args.found.now (only_where p (take i (expr_names es))) ≡ with_names c.args.found.now (only_where p (take (i + 1) (expr_names es))) = λ bad. ap (with_names c.args.found.now) (sym (where-same p (expr_names es) i a here bad)) in
    elim c.if-contains.branch [
      | then-contains+then-contains-2+in_ok-add w ↦
          w.found-is ∙ w.in_ok-add.ensures.after
          ∙ ap (λ (l : List Name). with_name l a) c.loop-expr.invariant
          ∙ sym (with_names-last c.args.found.now (only_where p (take i (expr_names es))) a)
          ∙ ap (with_names c.args.found.now) (sym (where-more p (expr_names es) i a here (ap₂ (λ (x y : Bool). x && y) (sym c.contains.ensures ∙ w.if-contains.true) (sym w.contains-then-contains.ensures ∙ w.if-contains-2.true))))
      | else-contains w ↦
          w.found-is ∙ c.loop-expr.invariant ∙ same (elim w.else-contains.branch [
            | else-contains-via-then-contains+else-contains-2 v ↦ ap₂ (λ (x y : Bool). x && y) (sym c.contains.ensures ∙ v.if-contains.true) (sym v.contains-then-contains.ensures ∙ v.if-contains-2.false)
            | else-contains-via-else-contains v ↦ ap (λ (x : Bool). x && has c.args.read.now a) (sym c.contains.ensures ∙ v.if-contains.false)
          ])
    ]
