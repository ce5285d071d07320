use Rattle.std.proofs.Common.{◌≡◌, ◌≤◌, [], ◌∷◌, length, true}
use Rattle.plan_meaning.specs.PlanAt.{plan_at}
use Rattle.plan_pass_laws.specs.Weights.{weight}
use Rattle.plan_reshape.proofs.Tends.{TriedExpr}
use Rattle.plan_reshape.proofs.exprs.apply_expr.Given as goal

abbrev pub invariant-loop-entry : goal.invariant-loop-entry
invariant-loop-entry g l = record {
  kind : g.R.OptimizationRule.kind_of l.rule ≡ g.R.OptimizationRule.kind_of l.initial.rule;
  own : g.R.OptimizationRule.is_own l.rule ≡ g.R.OptimizationRule.is_own l.initial.rule;
  longer : length l.initial.ex ≤ length l.ex;
  tried : TriedExpr (g.R.OptimizationRule.kind_of l.initial.rule ∷ []) l.lp l.initial.ex l.ex l.lp_node l.expr_node (record { changed = l.changed; replaced = l.replaced });
  told : g.R.OptimizationRule.is_own l.initial.rule ≡ true → plan_at l.lp l.ex l.lp_node ≡ plan_at l.lp l.initial.ex l.lp_node;
}

abbrev pub decreases-loop-entry : goal.decreases-loop-entry
decreases-loop-entry g l = weight (plan_at l.lp l.ex l.lp_node)
