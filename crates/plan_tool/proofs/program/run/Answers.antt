use Rattle.std.proofs.Common.{inr}
use Rattle.plan_tool.proofs.VerdictLemmas.{completes}
use Rattle.plan_tool.proofs.program.run.Goals as goal

pub returns-in-Some-clause-complete : goal.returns-in-Some-clause-complete
returns-in-Some-clause-complete g c = completes _ _ _ c.obey.result (inr (c.in-Some.command, c.in-Some.ensures.asked, c.obey.ensures.follows))
