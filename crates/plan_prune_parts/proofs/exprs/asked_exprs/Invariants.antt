use Rattle.std.proofs.Common.{◌≡◌, take}
use Rattle.plan_prune_parts.specs.Kept.{asked_exprs}
use Rattle.plan_prune_parts.proofs.exprs.asked_exprs.Given as goal

abbrev pub invariant-loop-expr : goal.invariant-loop-expr
invariant-loop-expr l = l.kept ≡ asked_exprs l.asked (take l.expr-index l.exprs)
