use Rattle.std.proofs.Common.{◌≡◌, ◌≤◌, true, length, map, take}
use Rattle.plan_meaning.specs.Marks.{unmarked}
use Rattle.plan_meaning.specs.PlanAt.{plan_at}
use Rattle.plan_pass_laws.specs.Walks.{UntilAll}
use Rattle.plan_reshape.specs.Walking.{all_own, done_of}
use Rattle.plan_reshape.proofs.Visits.{Visited}
use Rattle.plan_reshape.proofs.nodes.visit.Given as goal

abbrev pub invariant-loop-i : goal.invariant-loop-i
invariant-loop-i g l = record {
  kinds : map g.R.OptimizationRule.kind_of l.rules ≡ map g.R.OptimizationRule.kind_of l.initial.rules;
  owns : map g.R.OptimizationRule.is_own l.rules ≡ map g.R.OptimizationRule.is_own l.initial.rules;
  grows : length l.initial.lp ≤ length l.lp;
  longer : length l.initial.ex ≤ length l.ex;
  visited : Visited (take l.i (map g.R.OptimizationRule.kind_of l.initial.rules)) l.initial.lp l.lp l.initial.ex l.ex l.node (done_of l.work);
  told : all_own (map g.R.OptimizationRule.is_own l.initial.rules) ≡ true → UntilAll (take l.i (map g.R.OptimizationRule.kind_of l.initial.rules)) (unmarked (plan_at l.initial.lp l.initial.ex l.node)) (unmarked (plan_at l.lp l.ex l.node));
}
