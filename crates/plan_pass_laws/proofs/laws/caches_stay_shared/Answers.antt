use Rattle.plan_pass_laws.proofs.CachesLeft.{stay_shared}
use Rattle.plan_pass_laws.proofs.laws.caches_stay_shared.Goals as goal

pub returns : goal.returns
returns c = λ now q p left alike h. stay_shared now q p left alike h
