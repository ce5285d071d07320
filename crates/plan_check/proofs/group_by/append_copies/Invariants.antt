use Rattle.std.proofs.Common.{◌≡◌, ◌++◌, take}
use Rattle.plan_check.proofs.group_by.append_copies.Given as goal

abbrev pub invariant-loop-expr : goal.invariant-loop-expr
invariant-loop-expr l = l.out ≡ l.initial.out ++ take l.expr-index l.exprs
