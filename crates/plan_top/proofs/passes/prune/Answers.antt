use Rattle.std.proofs.Common.{◌≡◌, Bool, true, rules, sym, subst}
use Rattle.plan_top.specs.declared.trail.Pass.TheVariants.{Prune}
use Rattle.plan_top.specs.Chains.{is_pruning}
use Rattle.plan_top.specs.Trails.{RanIf}
use Rattle.plan_top.proofs.passes.prune.Goals as goal

pub returns-clause-passed : goal.returns-clause-passed
returns-clause-passed c = λ boxes.
    let on : is_pruning c.args.flags ≡ true = search rules in
    subst (λ (ran : Bool). RanIf ran c.args.flags boxes Prune c.args.lp.now c.push_down.new.lp c.args.ex.now c.push_down.new.ex c.args.root 0) (sym on) (c.in_ok-counts.ensures.passed c.args.flags boxes)
