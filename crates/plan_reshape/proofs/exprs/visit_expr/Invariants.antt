use Rattle.std.proofs.Common.{◌≡◌, ◌≤◌, true, length, map, take}
use Rattle.plan_meaning.specs.PlanAt.{plan_at}
use Rattle.plan_reshape.specs.Walking.{all_own, done_of}
use Rattle.plan_reshape.proofs.Tends.{TriedExpr}
use Rattle.plan_reshape.proofs.exprs.visit_expr.Given as goal

abbrev pub invariant-loop-i : goal.invariant-loop-i
invariant-loop-i g l = record {
  kinds : map g.R.OptimizationRule.kind_of l.rules ≡ map g.R.OptimizationRule.kind_of l.initial.rules;
  owns : map g.R.OptimizationRule.is_own l.rules ≡ map g.R.OptimizationRule.is_own l.initial.rules;
  longer : length l.initial.ex ≤ length l.ex;
  tried : TriedExpr (take l.i (map g.R.OptimizationRule.kind_of l.initial.rules)) l.lp l.initial.ex l.ex l.lp_node l.expr_node (done_of l.work);
  told : all_own (map g.R.OptimizationRule.is_own l.initial.rules) ≡ true → plan_at l.lp l.ex l.lp_node ≡ plan_at l.lp l.initial.ex l.lp_node;
}
