use Rattle.std.proofs.Common.{◌≡◌}
use Rattle.std.specs.List.{filter as only_where}
use Rattle.plan_core.specs.Names.{with_names}
use Rattle.plan_expr.specs.Exprs.{expr_at}
use Rattle.plan_expr.specs.Leaves.{leaves}
use Rattle.plan_cluster.specs.Found.{is_awaited}
use Rattle.plan_cluster.proofs.staying.add_awaited.Given as goal

-- what is left to read, added, makes the whole
abbrev pub invariant-loop-name : goal.invariant-loop-name
invariant-loop-name l = record {
  can : (goal.iterator-loop-name).can_next l.name-iterator;
  finite : (goal.iterator-loop-name).is_finite l.name-iterator;
  added : with_names l.found (only_where (is_awaited l.upper l.lower) l.name-iterator) ≡ with_names l.initial.found (only_where (is_awaited l.upper l.lower) (leaves (expr_at l.ex l.fn.node)));
}
