use Rattle.std.proofs.Common.{◌≡◌, take}
use Rattle.std.specs.List.{filter as only_where}
use Rattle.plan_core.specs.Names.{with_names}
use Rattle.plan_expr.specs.Exprs.{all_named_at}
use Rattle.plan_frame.specs.ExprLists.{all_leaves, out_names}
use Rattle.plan_collapse_laws.specs.Staying.{reads_one}
use Rattle.plan_cluster.proofs.staying.add_readers.Given as goal

-- the names up to here
abbrev pub invariant-loop-expr : goal.invariant-loop-expr
invariant-loop-expr l = record {
  read : l.read ≡ with_names l.initial.read (all_leaves (all_named_at l.ex (take l.expr-index l.upper)));
  found : l.found ≡ with_names l.initial.found (out_names (only_where (reads_one l.lower) (all_named_at l.ex (take l.expr-index l.upper))));
}
