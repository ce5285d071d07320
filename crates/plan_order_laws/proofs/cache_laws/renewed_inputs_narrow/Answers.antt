use Rattle.plan_order_laws.proofs.SiteCuts.{renewed_keeps, site_valid}
use Rattle.plan_order_laws.proofs.RenewedNarrows.{renews}
use Rattle.plan_order_laws.proofs.cache_laws.renewed_inputs_narrow.Goals as goal

pub returns-clause-valid : goal.returns-clause-valid
returns-clause-valid c = λ read p v. site_valid read p v

pub returns-clause-narrows : goal.returns-clause-narrows
returns-clause-narrows c = λ read p v. renews read p v

pub returns-clause-keeps : goal.returns-clause-keeps
returns-clause-keeps c = λ read p v. renewed_keeps read p v
