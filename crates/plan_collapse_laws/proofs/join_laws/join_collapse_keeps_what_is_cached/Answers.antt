use Rattle.std.proofs.Common.{◌∙◌, [], ap, sym}
use Rattle.plan_collapse_laws.specs.Collapsed.{collapsed}
use Rattle.plan_collapse_laws.proofs.CollapsedShared.{collapsed_shared, run_caches, run_unmarked}
use Rattle.plan_collapse_laws.proofs.join_laws.join_collapse_keeps_what_is_cached.Goals as goal

pub returns-clause-kept : goal.returns-clause-kept
returns-clause-kept c = λ p cached among. run_caches p [] cached among

pub returns-clause-alike : goal.returns-clause-alike
returns-clause-alike c = λ p q alike. run_unmarked p [] ∙ ap collapsed alike ∙ sym (run_unmarked q [])

pub returns-clause-shared : goal.returns-clause-shared
returns-clause-shared c = λ p shared. collapsed_shared p shared
