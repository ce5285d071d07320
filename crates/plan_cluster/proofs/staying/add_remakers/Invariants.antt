use Rattle.std.proofs.Common.{◌≡◌, take}
use Rattle.std.specs.List.{filter as only_where}
use Rattle.plan_core.specs.Names.{with_names}
use Rattle.plan_cluster.specs.ExprNames.{expr_names}
use Rattle.plan_cluster.specs.Found.{remade_and_read}
use Rattle.plan_cluster.proofs.staying.add_remakers.Given as goal

-- the names up to here
abbrev pub invariant-loop-expr : goal.invariant-loop-expr
invariant-loop-expr l = l.found ≡ with_names l.initial.found (only_where (remade_and_read l.lower l.read) (take l.expr-index (expr_names l.upper)))
