use Rattle.std.proofs.Common.{◌≡◌, ◌++◌, map, take}
use Rattle.plan_ir.proofs.parts.append.Given as goal

abbrev pub invariant-loop-expr : goal.invariant-loop-expr
invariant-loop-expr l = map (λ e. e.now) l.exprs ≡ map (λ e. e.now) l.initial.exprs ++ take l.expr-index l.list
