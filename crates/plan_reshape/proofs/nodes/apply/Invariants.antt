use Rattle.std.proofs.Common.{◌≡◌, ◌≤◌, length}
use Rattle.plan_meaning.specs.PlanAt.{plan_at}
use Rattle.plan_pass_laws.specs.Weights.{weight}
use Rattle.plan_reshape.proofs.Brings.{Tried}
use Rattle.plan_reshape.proofs.Told.{Onward}
use Rattle.plan_reshape.proofs.nodes.apply.Given as goal

abbrev pub invariant-loop-entry : goal.invariant-loop-entry
invariant-loop-entry g l = record {
  kind : g.R.OptimizationRule.kind_of l.rule ≡ g.R.OptimizationRule.kind_of l.initial.rule;
  own : g.R.OptimizationRule.is_own l.rule ≡ g.R.OptimizationRule.is_own l.initial.rule;
  grows : length l.initial.lp ≤ length l.lp;
  longer : length l.initial.ex ≤ length l.ex;
  tried : Tried (g.R.OptimizationRule.kind_of l.initial.rule) l.initial.lp l.lp l.initial.ex l.ex l.node (record { changed = l.changed; replaced = l.replaced });
  told : Onward (g.R.OptimizationRule.kind_of l.initial.rule) (g.R.OptimizationRule.is_own l.initial.rule) (plan_at l.initial.lp l.initial.ex l.node) (plan_at l.lp l.ex l.node);
}

abbrev pub decreases-loop-entry : goal.decreases-loop-entry
decreases-loop-entry g l = weight (plan_at l.lp l.ex l.node)
