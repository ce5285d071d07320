use Rattle.std.proofs.Common.{◌≡◌, ◌-◌, ap, sym, arith, length, Some}
use Rattle.std.specs.List.{slice_get}
use Rattle.plan_dsl.proofs.AppendLemmas.{appends_next}
use Rattle.plan_dsl.proofs.ListLemmas.{reverse-take}
use Rattle.plan_dsl.specs.Parts.{children}
use Rattle.plan_dsl.proofs.expr.Expr.nodes.Goals as goal

pub at-requires : goal.at-requires
at-requires c = omega (arith, ap length c.children-children.ensures)

pub loop-left-preserved : goal.loop-left-preserved
loop-left-preserved c =
    let there : slice_get (children c.args.self.now) (c.loop-left.left - 1) ≡ Some c.at.result.now = rw (sym c.children-children.ensures) c.at.ensures in
    (omega arith, appends_next (λ r. r.now) _ _ _ c.at.result _ _ _ c.loop-left.invariant.1 (reverse-take (children c.args.self.now) c.loop-left.left c.at.result.now c.loop-left-test.true there) c.in_ok-push.ensures.pushed)
