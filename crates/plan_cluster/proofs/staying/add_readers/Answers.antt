use Rattle.std.proofs.Common.{◌≡◌, ◌∙◌, ap, ap₂, sym, List, Some}
use Rattle.std.specs.List.{slice_get}
use Rattle.plan_core.specs.Names.{with_name, with_names}
use Rattle.plan_expr.specs.Exprs.{expr_at}
use Rattle.plan_expr.specs.Leaves.{Name, leaves}
use Rattle.plan_frame.proofs.ScalarExprs.{item_here, stands_here}
use Rattle.plan_collapse_laws.specs.Staying.{reads_one}
use Rattle.plan_cluster.proofs.NameLemmas.{leaves-next, passing-next, passing-same}
use Rattle.plan_cluster.proofs.staying.add_readers.Goals.{else-branch, then-branch+in_ok-add}
use Rattle.plan_cluster.proofs.staying.add_readers.Goals as goal

pub add_leaves-requires : goal.add_leaves-requires
add_leaves-requires c = stands_here c.args.ex.now c.args.upper.now c.loop-expr.expr-index c.expr-item.result c.requires c.loop-expr-test.true c.expr-item.is

pub loop-expr-preserved : goal.loop-expr-preserved
loop-expr-preserved c =
    let ex = c.args.ex.now in
    let es = c.args.upper.now in
    let i = c.loop-expr.expr-index in
    let e = c.expr-item.result in
    let here : slice_get es i ≡ Some e = item_here es i e c.loop-expr-test.true c.expr-item.is in
    record {
      read = c.in_ok-add_leaves.ensures.added ∙ ap (λ (l : List Name). with_names l (leaves (expr_at ex e.node))) c.loop-expr.invariant.read ∙ leaves-next ex es i e c.args.read.now here;
      found = elim c.if-branch.branch [
        | then-branch+in_ok-add w ↦
            w.found-is ∙ w.in_ok-add.ensures.after
            ∙ ap₂ (λ (l : List Name) (a : Name). with_name l a) c.loop-expr.invariant.found w.output_name.ensures
            ∙ passing-next ex (reads_one c.args.lower.now) es i e c.args.found.now here (sym c.in_ok-add_leaves.ensures.reads ∙ w.if-branch.true)
        | else-branch w ↦
            w.found-is ∙ c.loop-expr.invariant.found
            ∙ passing-same ex (reads_one c.args.lower.now) es i e c.args.found.now here (sym c.in_ok-add_leaves.ensures.reads ∙ w.if-branch.false)
      ];
    }
