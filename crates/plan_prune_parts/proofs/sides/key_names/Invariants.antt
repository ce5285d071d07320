use Rattle.std.proofs.Common.{◌≡◌, [], take}
use Rattle.plan_core.specs.Names.{with_names}
use Rattle.plan_expr.specs.Exprs.{all_named_at}
use Rattle.plan_frame.specs.ExprLists.{all_leaves}
use Rattle.plan_prune_parts.proofs.sides.key_names.Given as goal

-- the names of the keys up to here
abbrev pub invariant-loop-key : goal.invariant-loop-key
invariant-loop-key l = l.names ≡ with_names [] (all_leaves (all_named_at l.ex (take l.key-index l.keys)))
