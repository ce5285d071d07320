use Rattle.plan_order_laws.proofs.RankedOnce.{ranked_once}
use Rattle.plan_order_laws.proofs.cache_laws.numbers_are_ranked_once.Goals as goal

pub returns : goal.returns
returns c = λ p cached h. ranked_once p cached h
