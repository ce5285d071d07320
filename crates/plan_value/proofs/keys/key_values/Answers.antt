use Rattle.std.proofs.Common.{◌≡◌, ◌+◌, List, sym, subst, take}
use Rattle.plan_expr.specs.Exprs.{all_named_at}
use Rattle.plan_frame.specs.Orders.{key_cells}
use Rattle.plan_frame.proofs.ScalarExprs.{stands_here}
use Rattle.plan_value.specs.declared.exprs.Values.{Values}
use Rattle.plan_value.specs.Cells.{cells_of}
use Rattle.plan_value.specs.Shown.{frame_of}
use Rattle.plan_value.proofs.KeyLemmas.{keys-next}
use Rattle.plan_value.proofs.keys.key_values.Goals as goal

pub evaluate_expr-requires : goal.evaluate_expr-requires
evaluate_expr-requires c = stands_here c.args.ex.now c.args.keys.now c.loop-key.key-index c.key-item.result c.requires c.loop-key-test.true c.key-item.is

pub loop-key-preserved : goal.loop-key-preserved
loop-key-preserved c =
    let i = c.loop-key.key-index in
    subst (λ (vs : List Values). cells_of vs ≡ key_cells (all_named_at c.args.ex.now (take (i + 1) c.args.keys.now)) (frame_of c.args.table.now)) (sym c.in_ok-push.ensures.pushed)
    (keys-next c.args.ex.now c.args.keys.now (frame_of c.args.table.now) i c.key-item.result c.loop-key.values c.in_ok-evaluate_expr.field-0 c.loop-key-test.true c.key-item.is c.in_ok-evaluate_expr.ensures c.loop-key.invariant)
