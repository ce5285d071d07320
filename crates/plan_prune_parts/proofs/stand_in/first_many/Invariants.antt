use Rattle.std.proofs.Common.{◌≡◌, take, []}
use Rattle.plan_prune_parts.specs.Kept.{many_at}
use Rattle.plan_prune_parts.proofs.stand_in.first_many.Given as goal

abbrev pub invariant-loop-expr : goal.invariant-loop-expr
invariant-loop-expr l = many_at l.ex (take l.expr-index l.exprs) ≡ []
