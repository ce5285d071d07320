use Rattle.plan_collapse_laws.proofs.Kept.{clustered_alike, clustered_caches, clustered_shared}
use Rattle.plan_collapse_laws.proofs.addition_laws.clustering_keeps_what_is_cached.Goals as goal

pub returns-clause-kept : goal.returns-clause-kept
returns-clause-kept c = λ p cached among. clustered_caches p cached among

pub returns-clause-alike : goal.returns-clause-alike
returns-clause-alike c = λ p q alike. clustered_alike p q alike

pub returns-clause-shared : goal.returns-clause-shared
returns-clause-shared c = λ p shared. clustered_shared p shared
