use Rattle.std.proofs.Common.{◌+◌, length}
use Rattle.plan_expr.specs.Exprs.{all_named_at}
use Rattle.plan_check_parts.proofs.PairFaults.{PairsLeft}
use Rattle.plan_check_parts.proofs.join_types.check_pairs.Given as goal

abbrev pub invariant-loop-i : goal.invariant-loop-i
invariant-loop-i l = PairsLeft l.node l.how (1 + length l.left_on) l.left l.right (all_named_at l.ex l.left_on) (all_named_at l.ex l.right_on) l.i
