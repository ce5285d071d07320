use Rattle.std.proofs.Common.{◌≡◌, ◌≤◌, ◌++◌, ◌-◌, length, map, true}
use Rattle.plan_tree.specs.Read.{tree_at}
use Rattle.plan_tree.specs.Rose.{size}
use Rattle.plan_expr.specs.Operands.{expr_shape}
use Rattle.plan_meaning.specs.PlanAt.{plan_at}
use Rattle.plan_reshape.specs.Walking.{all_own, done_of}
use Rattle.plan_reshape.proofs.Operands.{Ops}
use Rattle.plan_reshape.proofs.exprs.+walk_expr.Given as goal

abbrev pub decreases-walk_expr : goal.decreases-walk_expr
decreases-walk_expr g l = size (tree_at expr_shape l.ex.now l.expr_node)

abbrev pub decreases-loop-operand : goal.decreases-loop-operand
decreases-loop-operand g l = length l.listed - l.place

abbrev pub invariant-loop-operand : goal.invariant-loop-operand
invariant-loop-operand g l = record {
  kinds : map g.R.OptimizationRule.kind_of l.rules ≡ map g.R.OptimizationRule.kind_of l.initial.rules;
  owns : map g.R.OptimizationRule.is_own l.rules ≡ map g.R.OptimizationRule.is_own l.initial.rules;
  extra_kinds : map g.Q.OptimizationRule.kind_of l.extra ≡ map g.Q.OptimizationRule.kind_of l.initial.extra;
  extra_owns : map g.Q.OptimizationRule.is_own l.extra ≡ map g.Q.OptimizationRule.is_own l.initial.extra;
  longer : length l.initial.ex ≤ length l.ex;
  left : Ops (map g.R.OptimizationRule.kind_of l.initial.rules ++ map g.Q.OptimizationRule.kind_of l.initial.extra) l.lp l.initial.ex l.ex l.lp_node l.listed l.place (done_of l.work);
  told : all_own (map g.R.OptimizationRule.is_own l.initial.rules ++ map g.Q.OptimizationRule.is_own l.initial.extra) ≡ true → plan_at l.lp l.ex l.lp_node ≡ plan_at l.lp l.initial.ex l.lp_node;
}
