use Rattle.plan_order_laws.proofs.OrderSites.{basis_given, sites_basis, sites_ordered}
use Rattle.plan_order_laws.proofs.demand_laws.ordered_plans_ask_what_unsorted_ones_do.Goals as goal

pub returns-clause-asked : goal.returns-clause-asked
returns-clause-asked c = λ d p. sites_ordered d p

pub returns-clause-basis : goal.returns-clause-basis
returns-clause-basis c = λ flags p drops. sites_basis flags p drops

pub returns-clause-given : goal.returns-clause-given
returns-clause-given c = λ flags p drops. basis_given flags p drops
