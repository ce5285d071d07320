use Rattle.std.proofs.Common.{◌≡◌, List, take}
use Rattle.plan_expr.specs.declared.aexpr.AExpr.{AExpr}
use Rattle.plan_prune_steps.specs.Steps.{held_at}
use Rattle.plan_prune_steps.proofs.hconcat.held.Given as goal

-- each input up to here is asked the names that it has
abbrev pub invariant-loop-input : goal.invariant-loop-input
invariant-loop-input l = (ex : List AExpr) → l.lists ≡ held_at l.lp ex l.asked (take l.input-index l.inputs)
