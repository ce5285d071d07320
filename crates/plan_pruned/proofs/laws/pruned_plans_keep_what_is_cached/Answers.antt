use Rattle.plan_pruned.proofs.CachesPruned.{pruned_caches, shared_pruned}
use Rattle.plan_pruned.proofs.laws.pruned_plans_keep_what_is_cached.Goals as goal

pub returns-clause-kept : goal.returns-clause-kept
returns-clause-kept c = λ top asked p cached among. pruned_caches top asked p cached among

pub returns-clause-shared : goal.returns-clause-shared
returns-clause-shared c = λ top asked p shared. shared_pruned top asked p shared
