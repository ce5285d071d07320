use Rattle.std.proofs.Common.{◌≡◌, ◌++◌, map, take}
use Rattle.plan_ir.proofs.parts.append_copies.Given as goal

abbrev pub invariant-loop-expr : goal.invariant-loop-expr
invariant-loop-expr l = l.out ≡ l.initial.out ++ map (λ e. e.now) (take l.expr-index l.list)
