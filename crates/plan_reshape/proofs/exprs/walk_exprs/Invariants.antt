use Rattle.std.proofs.Common.{◌≡◌, ◌≤◌, ◌++◌, ◌-◌, length, map, Some, true}
use Rattle.std.specs.List.{slice_get}
use Rattle.plan_ir.specs.declared.ir.IR.{IR}
use Rattle.plan_ir.specs.Parts.{listed_exprs_of}
use Rattle.plan_meaning.specs.PlanAt.{plan_at}
use Rattle.plan_reshape.specs.Walking.{all_own, done_of}
use Rattle.plan_reshape.proofs.Listed.{Roots}
use Rattle.plan_reshape.proofs.Repeats.{Since}
use Rattle.plan_reshape.proofs.exprs.walk_exprs.Given as goal

abbrev pub decreases-loop-root : goal.decreases-loop-root
decreases-loop-root g l = length l.listed - l.place

abbrev pub invariant-loop-root : goal.invariant-loop-root
invariant-loop-root g l = record {
  kinds : map g.R.OptimizationRule.kind_of l.rules ≡ map g.R.OptimizationRule.kind_of l.initial.rules;
  owns : map g.R.OptimizationRule.is_own l.rules ≡ map g.R.OptimizationRule.is_own l.initial.rules;
  extra_kinds : map g.Q.OptimizationRule.kind_of l.extra ≡ map g.Q.OptimizationRule.kind_of l.initial.extra;
  extra_owns : map g.Q.OptimizationRule.is_own l.extra ≡ map g.Q.OptimizationRule.is_own l.initial.extra;
  longer : length l.initial.ex ≤ length l.ex;
  since : Since (map g.R.OptimizationRule.kind_of l.initial.rules ++ map g.Q.OptimizationRule.kind_of l.initial.extra) l.lp l.lp l.initial.ex l.ex l.lp_node (done_of l.work);
  left : (p : IR) × (slice_get l.lp l.lp_node.0 ≡ Some p) × (l.listed ≡ listed_exprs_of p) × Roots p l.place;
  told : all_own (map g.R.OptimizationRule.is_own l.initial.rules ++ map g.Q.OptimizationRule.is_own l.initial.extra) ≡ true → plan_at l.lp l.ex l.lp_node ≡ plan_at l.lp l.initial.ex l.lp_node;
}
