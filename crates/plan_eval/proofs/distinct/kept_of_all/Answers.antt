use Rattle.std.proofs.Common.{sym, arith}
use Rattle.plan_eval.proofs.DistinctLemmas.{last-of-all, none-alone}
use Rattle.plan_eval.proofs.distinct.kept_of_all.Goals as goal

pub returns-else-height-eq1 : goal.returns-else-height-eq1
returns-else-height-eq1 c = rw c.in-None.is (none-alone c.args.height (λ e. absurd (omega (arith, e, c.if-height-eq1.false))))

pub returns-then-height-gt0-2 : goal.returns-then-height-gt0-2
returns-then-height-gt0-2 c = rw c.in-Last.is (sym (last-of-all c.args.height c.if-height-gt0-2.true))
