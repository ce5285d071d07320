use Rattle.std.proofs.Common.{◌∙◌, ap, subst, sym}
use Rattle.plan_value.specs.Cells.{cell_of}
use Rattle.plan_value.specs.Shown.{value_of}
use Rattle.plan_join_eval.specs.Runs.{is_met, is_up, IsRunAt}
use Rattle.plan_join_eval.proofs.RunLemmas.{none-passed, one-passed, run-passed}
use Rattle.plan_join_eval.proofs.runs.passed_over.Goals as goal

pub returns-then-meets : goal.returns-then-meets
returns-then-meets c = λ h lt all. none-passed c.args.operator c.args.by_right (value_of c.args.own.now) (cell_of c.args.key.now) c.args.first h lt

pub loop-run-init : goal.loop-run-init
loop-run-init c = λ h lt all.
    one-passed c.args.operator c.args.by_right (value_of c.args.own.now) (cell_of c.args.key.now) c.args.first h lt
    (ap (is_met c.args.operator c.args.by_right (value_of c.args.own.now)) (sym c.value_of_key.ensures) ∙ sym c.meets.ensures ∙ c.if-meets.false)

pub loop-run-preserved : goal.loop-run-preserved
loop-run-preserved c = λ h lt all.
    let r = c.run-item.result in
    let up = is_up c.args.operator c.args.by_right in
    let cell = cell_of c.args.key.now in
    run-passed c.args.operator c.args.by_right (value_of c.args.own.now) cell c.args.first h r (subst (IsRunAt up cell c.args.first h) (sym c.run-item.is) (all c.loop-run.run-index r c.loop-run-test.true)) (c.is_out_of_reach.ensures c.if-not-is_out_of_reach.false)
