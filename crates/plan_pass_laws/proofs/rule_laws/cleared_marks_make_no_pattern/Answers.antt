use Rattle.plan_pass_laws.proofs.ClearedPatterns.{all_quiet, shows_cleared}
use Rattle.plan_pass_laws.proofs.rule_laws.cleared_marks_make_no_pattern.Goals as goal

pub returns-clause-root : goal.returns-clause-root
returns-clause-root c = λ kind q p h e. shows_cleared kind q p h e

pub returns-clause-below : goal.returns-clause-below
returns-clause-below c = λ kinds qs ps h e. all_quiet kinds qs ps h e
