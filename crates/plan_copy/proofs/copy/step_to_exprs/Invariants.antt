use Rattle.std.proofs.Common.{◌≡◌, ◌++◌, map, take}
use Rattle.plan_tree.specs.Walk.{steps_to}
use Rattle.plan_copy.proofs.copy.step_to_exprs.Given as goal

abbrev pub invariant-loop-expr : goal.invariant-loop-expr
invariant-loop-expr l = l.steps ≡ l.initial.steps ++ steps_to tt (map (λ e. e.now.node) (take l.expr-index l.expr-items))
