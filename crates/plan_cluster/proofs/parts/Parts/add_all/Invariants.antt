use Rattle.std.proofs.Common.{◌≡◌, take}
use Rattle.plan_cluster.specs.Parts.{parts_more}
use Rattle.plan_cluster.proofs.parts.Parts.add_all.Given as goal

-- the parts up to here
abbrev pub invariant-loop-expr : goal.invariant-loop-expr
invariant-loop-expr l = l.self ≡ parts_more l.found l.lower l.initial.self (take l.expr-index l.exprs)
