use Rattle.plan_order_laws.proofs.Shuffles.{shuffled}
use Rattle.plan_order_laws.proofs.Summaries.{aggregated_same}
use Rattle.plan_order_laws.proofs.row_laws.aggregates_may_ignore_the_order.Goals as goal

pub returns-clause-values : goal.returns-clause-values
returns-clause-values c = λ vs ws p. shuffled vs ws p

pub returns-clause-rows : goal.returns-clause-rows
returns-clause-rows c = λ xs ys p. shuffled xs ys p

pub returns-clause-same : goal.returns-clause-same
returns-clause-same c = λ op t ignores known vs ws s are. aggregated_same op t ignores known vs ws s are
