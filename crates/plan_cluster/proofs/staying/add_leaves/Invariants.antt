use Rattle.std.proofs.Common.{◌≡◌, ◌||◌}
use Rattle.std.specs.List.{list_any}
use Rattle.plan_core.specs.Names.{has, with_names}
use Rattle.plan_expr.specs.Exprs.{expr_at}
use Rattle.plan_expr.specs.Leaves.{leaves}
use Rattle.plan_cluster.proofs.staying.add_leaves.Given as goal

-- what is left to read, added, makes the whole
abbrev pub invariant-loop-name : goal.invariant-loop-name
invariant-loop-name l = record {
  can : (goal.iterator-loop-name).can_next l.name-iterator;
  finite : (goal.iterator-loop-name).is_finite l.name-iterator;
  added : with_names l.read l.name-iterator ≡ with_names l.initial.read (leaves (expr_at l.ex l.fn.node));
  reads : (l.reads || list_any (has l.lower) l.name-iterator) ≡ list_any (has l.lower) (leaves (expr_at l.ex l.fn.node));
}
