use Rattle.std.proofs.Common.{◌≡◌, map, take}
use Rattle.plan_ir.specs.Moved.{moved_named}
use Rattle.plan_copy.proofs.copy.move_each.Given as goal

abbrev pub invariant-loop-expr : goal.invariant-loop-expr
invariant-loop-expr l = l.moved ≡ map (λ e. moved_named l.exprs e.now) (take l.expr-index l.list)
