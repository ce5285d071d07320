use Rattle.std.proofs.Common.{◌≡◌, All, Option, arith, subst, sym}
use Rattle.std.specs.Prelude.{IfSome, ℕ}
use Rattle.std.proofs.lemmas.List.Elements.{All-push}
use Rattle.plan_value.specs.Cells.{cell_of}
use Rattle.plan_value.specs.Shown.{value_of}
use Rattle.plan_join_eval.specs.declared.runs.Run.{Run}
use Rattle.plan_join_eval.specs.Runs.{IsRun, IsRunAt}
use Rattle.plan_join_eval.proofs.runs.runs_from.Goals as goal

pub loop-preserved : goal.loop-preserved
loop-preserved c =
    let cell = cell_of c.args.key.now in
    let run = c.in-Some-2.run' in
    let count : run.count ≡ c.in-Some.next = subst (λ (o : Option Run). IfSome o (λ (r : Run). r.count ≡ c.in-Some.next)) c.in-Some-2.is c.in_ok-run.ensures.count in
    let within = subst (λ (o : Option Run). IfSome o (λ (r : Run). IsRun c.args.up cell c.args.first c.in-Some.next (value_of r.bound))) c.in-Some-2.is c.in_ok-run.ensures.within in
    subst (All (IsRunAt c.args.up cell c.args.first c.args.height)) (sym c.in_ok-push.ensures.pushed)
    (All-push (IsRunAt c.args.up cell c.args.first c.args.height) c.loop.runs run c.loop.invariant (record {
      ends = omega (arith, count, c.if-next-height.false, c.requires);
      within = subst (λ (n : ℕ). IsRun c.args.up cell c.args.first n (value_of run.bound)) (sym count) within;
    }))
