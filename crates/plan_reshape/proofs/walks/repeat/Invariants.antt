use Rattle.std.proofs.Common.{◌≡◌, ◌≤◌, ◌++◌, length, Bool, map, true}
use Rattle.plan_meaning.specs.PlanAt.{plan_at}
use Rattle.plan_pass_laws.specs.Weights.{weight}
use Rattle.plan_reshape.specs.Walking.{Rounds, all_own}
use Rattle.plan_reshape.proofs.Repeats.{Since}
use Rattle.plan_reshape.proofs.walks.repeat.Given as goal

abbrev pub invariant-loop-work : goal.invariant-loop-work
invariant-loop-work g l = record {
  kinds : map g.R.OptimizationRule.kind_of l.rules ≡ map g.R.OptimizationRule.kind_of l.initial.rules;
  owns : map g.R.OptimizationRule.is_own l.rules ≡ map g.R.OptimizationRule.is_own l.initial.rules;
  extra_kinds : map g.Q.OptimizationRule.kind_of l.extra ≡ map g.Q.OptimizationRule.kind_of l.initial.extra;
  extra_owns : map g.Q.OptimizationRule.is_own l.extra ≡ map g.Q.OptimizationRule.is_own l.initial.extra;
  grows : length l.initial.lp ≤ length l.lp;
  longer : length l.initial.ex ≤ length l.ex;
  since : (changed : Bool) × Since (map g.R.OptimizationRule.kind_of l.initial.rules ++ map g.Q.OptimizationRule.kind_of l.initial.extra) l.initial.lp l.lp l.initial.ex l.ex l.lp_top (record { changed = changed; replaced = l.replaced });
  rounds : all_own (map g.R.OptimizationRule.is_own l.initial.rules ++ map g.Q.OptimizationRule.is_own l.initial.extra) ≡ true → Rounds (map g.R.OptimizationRule.kind_of l.initial.rules ++ map g.Q.OptimizationRule.kind_of l.initial.extra) (plan_at l.initial.lp l.initial.ex l.lp_top) (plan_at l.lp l.ex l.lp_top);
}

abbrev pub decreases-loop-work : goal.decreases-loop-work
decreases-loop-work g l = weight (plan_at l.lp l.ex l.lp_top)
