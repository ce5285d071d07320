use Rattle.std.proofs.Common.{◌≡◌, []}
use Rattle.plan_dsl.proofs.NameLemmas.{decided_before}
use Rattle.plan_dsl.proofs.output_name.+first_naming.Given as goal

abbrev pub invariant-loop-index : goal.invariant-loop-index
invariant-loop-index l = decided_before l.expr l.index ≡ []

abbrev pub decreases-first_naming : goal.decreases-first_naming
decreases-first_naming l = goal.size-first_naming l
