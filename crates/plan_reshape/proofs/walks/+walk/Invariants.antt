use Rattle.std.proofs.Common.{◌≡◌, ◌≤◌, ◌++◌, length, map}
use Rattle.plan_meaning.specs.PlanAt.{plan_at}
use Rattle.plan_pass_laws.specs.Weights.{weight}
use Rattle.plan_reshape.specs.Walking.{all_own, done_of}
use Rattle.plan_reshape.proofs.Inputs.{Left}
use Rattle.plan_reshape.proofs.walks.+walk.Given as goal

abbrev pub decreases-walk : goal.decreases-walk
decreases-walk g l = weight (plan_at l.lp.now l.ex.now l.node)

abbrev pub decreases-loop-input : goal.decreases-loop-input
decreases-loop-input g l = length l.inputs

abbrev pub invariant-loop-input : goal.invariant-loop-input
invariant-loop-input g l = record {
  kinds : map g.R.OptimizationRule.kind_of l.rules ≡ map g.R.OptimizationRule.kind_of l.initial.rules;
  owns : map g.R.OptimizationRule.is_own l.rules ≡ map g.R.OptimizationRule.is_own l.initial.rules;
  extra_kinds : map g.Q.OptimizationRule.kind_of l.extra ≡ map g.Q.OptimizationRule.kind_of l.initial.extra;
  extra_owns : map g.Q.OptimizationRule.is_own l.extra ≡ map g.Q.OptimizationRule.is_own l.initial.extra;
  grows : length l.initial.lp ≤ length l.lp;
  longer : length l.initial.ex ≤ length l.ex;
  left : Left (map g.R.OptimizationRule.kind_of l.initial.rules ++ map g.Q.OptimizationRule.kind_of l.initial.extra) (all_own (map g.R.OptimizationRule.is_own l.initial.rules ++ map g.Q.OptimizationRule.is_own l.initial.extra)) l.initial.lp l.lp l.initial.ex l.ex l.initial.inputs l.inputs (done_of l.work);
}
