use Rattle.std.proofs.Common.{◌≡◌, ◌++◌, map, take}
use Rattle.plan_meaning.specs.TreeFaults.{marked}
use Rattle.plan_check.proofs.tree.mark_exprs.Given as goal

abbrev pub invariant-loop-i : goal.invariant-loop-i
invariant-loop-i l = l.out ≡ l.initial.out ++ marked l.node 1 (take l.i (map (λ e. e.now) l.exprs))
