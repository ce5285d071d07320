use Rattle.plan_value.specs.Cells.{cell_of}
use Rattle.plan_join_eval.proofs.RunLemmas.{runs-next}
use Rattle.plan_join_eval.proofs.runs.all_runs.Goals as goal

pub loop-first-preserved : goal.loop-first-preserved
loop-first-preserved c = runs-next c.args.up (cell_of c.args.key.now) c.args.height c.loop-first.first c.loop-first.runs.items _ _ c.loop-first.invariant c.in_ok-push.ensures.items c.in_ok-runs_from.ensures
