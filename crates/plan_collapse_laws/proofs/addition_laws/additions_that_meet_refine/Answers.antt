use Rattle.plan_collapse_laws.proofs.PairRefines.{met_refines}
use Rattle.plan_collapse_laws.proofs.addition_laws.additions_that_meet_refine.Goals as goal

pub returns : goal.returns
returns c = λ u l op ts v. met_refines u l tt op ts v
