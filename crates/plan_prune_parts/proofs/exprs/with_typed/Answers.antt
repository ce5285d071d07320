use Rattle.std.proofs.Common.{◌≡◌, ◌∙◌, ap, sym, rules, Some, None}
use Rattle.plan_core.specs.Columns.{Columns, type_of, with_type}
use Rattle.plan_expr.specs.Leaves.{Name}
use Rattle.plan_expr.specs.Naming.{name_of}
use Rattle.plan_frame.proofs.ScalarExprs.{item_here}
use Rattle.plan_prune_parts.proofs.ExprWalks.{made-next, made-skip}
use Rattle.plan_prune_parts.proofs.exprs.with_typed.Goals.{in-Some+in_ok-new+in_ok-with_column, in_default}
use Rattle.plan_prune_parts.proofs.exprs.with_typed.Goals as goal

pub loop-expr-preserved : goal.loop-expr-preserved
loop-expr-preserved c =
    let item = item_here c.args.exprs.now c.loop-expr.expr-index c.expr-item.result c.loop-expr-test.true c.expr-item.is in
    let name : Name = name_of c.expr-item.result.output_name in
    let found : type_of c.args.schema.now c.output_name-name.result.now ≡ type_of c.args.schema.now name = ap (type_of c.args.schema.now) c.output_name-name.ensures in
    elim c.match-get.branch [
      | in-Some+in_ok-new+in_ok-with_column w ↦
          (let is : type_of c.args.schema.now c.output_name-name.result.now ≡ Some w.in-Some.dtype.now = sym w.in-Some.ensures in
          w.columns-is ∙ w.in_ok-with_column.ensures.after
          ∙ ap (λ (a : Name). with_type c.loop-expr.columns a w.in-Some.dtype.now) (w.in_ok-new.ensures ∙ c.output_name-name.ensures)
          ∙ ap (λ (l : Columns). with_type l name w.in-Some.dtype.now) c.loop-expr.invariant
          ∙ made-next c.args.base c.args.exprs.now c.args.schema.now c.loop-expr.expr-index c.expr-item.result w.in-Some.dtype.now item (sym found ∙ is))
      | in_default w ↦
          (let is : type_of c.args.schema.now c.output_name-name.result.now ≡ None = search rules in
          w.columns-is ∙ c.loop-expr.invariant
          ∙ made-skip c.args.base c.args.exprs.now c.args.schema.now c.loop-expr.expr-index c.expr-item.result item (sym found ∙ is))
    ]
