use Rattle.plan_meaning.proofs.Refining.{refines_replaced}
use Rattle.plan_meaning.proofs.laws.refines_where_a_subplan_does.Goals as goal

pub returns : goal.returns
returns c = λ q p u t h v r. refines_replaced q p u t h v r
