use Rattle.plan_order_laws.proofs.RenewedNarrows.{to_whole, whole_covered}
use Rattle.plan_order_laws.proofs.cache_laws.plans_cut_to_all_names_refine.Goals as goal

pub returns-clause-above : goal.returns-clause-above
returns-clause-above c = λ a l p v e. whole_covered a l p v e

pub returns-clause-instead : goal.returns-clause-instead
returns-clause-instead c = λ a l p v e. to_whole a l p v e
