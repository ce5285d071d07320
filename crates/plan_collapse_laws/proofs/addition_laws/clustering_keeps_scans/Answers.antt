use Rattle.plan_collapse_laws.proofs.Kept.{clustered_keeps, clustered_scans}
use Rattle.plan_collapse_laws.proofs.addition_laws.clustering_keeps_scans.Goals as goal

pub returns-clause-same : goal.returns-clause-same
returns-clause-same c = λ p. clustered_scans p

pub returns-clause-kept : goal.returns-clause-kept
returns-clause-kept c = λ p. clustered_keeps p
