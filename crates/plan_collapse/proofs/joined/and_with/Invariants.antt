-- What was made so far, with the expressions that are left, is what all make.
use Rattle.plan_collapse.proofs.AndLemmas.{Joining}
use Rattle.plan_collapse.proofs.joined.and_with.Given as goal

abbrev pub invariant-loop-other : goal.invariant-loop-other
invariant-loop-other l = Joining l.initial.ex l.ex l.fn.first l.others l.made l.other-index
