use Rattle.std.proofs.Common.{reverse, length}
use Rattle.plan_dsl.specs.Appends.{Appends}
use Rattle.plan_dsl.specs.Owned.{owned}
use Rattle.plan_dsl.proofs.parts.Owned.append_to.Given as goal

abbrev pub invariant-loop-expr : goal.invariant-loop-expr
invariant-loop-expr l = Appends (λ e. e) l.fn.out l.out (reverse (owned l.rest)) (reverse (owned l.fn.self))

abbrev pub decreases-loop-expr : goal.decreases-loop-expr
decreases-loop-expr l = length (owned l.rest)
