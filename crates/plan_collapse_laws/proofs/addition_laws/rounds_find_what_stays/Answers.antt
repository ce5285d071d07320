use Rattle.std.proofs.Common.{length}
use Rattle.plan_collapse_laws.specs.Staying.{stays}
use Rattle.plan_collapse_laws.proofs.Staying.{holds-staying, least, only-staying}
use Rattle.plan_collapse_laws.proofs.addition_laws.rounds_find_what_stays.Goals as goal

pub returns-clause-found : goal.returns-clause-found
returns-clause-found c = λ es lower e s. least es lower (stays es lower) (holds-staying es lower) e s

pub returns-clause-no_other : goal.returns-clause-no_other
returns-clause-no_other c = λ es lower e once i h. only-staying es lower once (length es) e i h

pub returns-clause-least : goal.returns-clause-least
returns-clause-least c = λ es lower stay e h s. least es lower stay h e s

pub returns-clause-holds : goal.returns-clause-holds
returns-clause-holds c = λ es lower. holds-staying es lower
