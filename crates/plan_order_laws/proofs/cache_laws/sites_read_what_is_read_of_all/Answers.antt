use Rattle.plan_order_laws.proofs.SiteViews.{together}
use Rattle.plan_order_laws.proofs.cache_laws.sites_read_what_is_read_of_all.Goals as goal

pub returns : goal.returns
returns c = λ sites. together sites
