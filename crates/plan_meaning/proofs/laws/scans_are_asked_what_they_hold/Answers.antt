use Rattle.plan_meaning.proofs.Fairness.{plan_sites_fair}
use Rattle.plan_meaning.proofs.laws.scans_are_asked_what_they_hold.Goals as goal

pub returns : goal.returns
returns c = λ p v. plan_sites_fair p v
