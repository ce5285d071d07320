use Rattle.std.proofs.Common.{◌≤◌, drop, length}
use Rattle.plan_join.specs.Sides.{partner}
use Rattle.plan_join_eval.specs.Fills.{ArePartners}
use Rattle.plan_join_eval.proofs.fills.partners.Given as goal

-- each column has its partner by the pairs of keys from here on
abbrev pub invariant-loop-rest : goal.invariant-loop-rest
invariant-loop-rest l = record {
  left_within : l.rest ≤ length l.left_keys;
  right_within : l.rest ≤ length l.right_keys;
  are : ArePartners l.left l.right (partner (drop l.rest l.left_keys) (drop l.rest l.right_keys)) l.places.items;
}

abbrev pub decreases-loop-rest : goal.decreases-loop-rest
decreases-loop-rest l = l.rest
