use Rattle.std.proofs.Common.{◌∙◌, ◌++◌, ◌∷◌, [], ap₂, sym, List}
use Rattle.plan_expr.specs.declared.aexpr.AExpr.{AExpr}
use Rattle.plan_ir.specs.Moved.{moved_expr}
use Rattle.plan_ir.proofs.EntryLemmas.{map-entries_at-more}
use Rattle.plan_copy.proofs.copy.moved_exprs.Goals as goal

pub loop-node-preserved : goal.loop-node-preserved
loop-node-preserved c =
    c.in_ok-add.ensures.added
    ∙ ap₂ (λ (l : List AExpr) (x : AExpr). l ++ x ∷ []) c.loop-node.invariant c.in_ok-move_expr.ensures
    ∙ sym (map-entries_at-more (moved_expr c.args.exprs.now) c.args.ex.now c.args.listed.now c.loop-node.node-index (record { 0 = 0 }) c.get.result.now c.loop-node-test.true c.get.ensures.entry)
