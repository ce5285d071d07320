use Rattle.std.proofs.Common.{arith, ◌≡◌, ◌+◌, ◌<◌, ◌≤◌, ◌^◌, [], ◌∷◌, ◌++◌, refl, ◌∙◌, map, take, List, get_or, subst, length, ap, true}
use Rattle.plan_meaning.specs.Marks.{unmarked}
use Rattle.plan_meaning.specs.PlanAt.{plan_at}
use Rattle.plan_pass_laws.specs.Walks.{UntilAll}
use Rattle.plan_pass_laws.specs.declared.kind.RuleKind.{RuleKind}
use Rattle.plan_pass_laws.specs.Settling.{both}
use Rattle.plan_pass_laws.specs.Weights.{weight}
use Rattle.plan_reshape.specs.Walking.{all_own, done_of}
use Rattle.plan_reshape.proofs.Visits.{Visited, visited_first, visited_next, visited_stays, visited_then, map_set, take_map, take_map_all}
use Rattle.plan_reshape.proofs.Told.{own_at, until_next}
use Rattle.plan_reshape.proofs.nodes.visit.Goals as goal

pub loop-i-init : goal.loop-i-init
loop-i-init g c = record { kinds = refl; owns = refl; grows = omega arith; longer = omega arith; visited = rw c.none-work.ensures (visited_first (map g.R.OptimizationRule.kind_of c.args.rules.now) c.args.lp.now c.args.ex.now c.args.node c.requires.valid); told = λ o. refl }

pub apply-requires-clause-plan : goal.apply-requires-clause-plan
apply-requires-clause-plan g c = (visited_stays (take c.loop-i.i (map g.R.OptimizationRule.kind_of c.args.rules.now)) c.args.lp.now c.loop-i.lp c.args.ex.now c.loop-i.ex c.args.node (done_of c.loop-i.work) c.requires.plan c.loop-i.invariant.visited).plan

pub apply-requires-clause-valid : goal.apply-requires-clause-valid
apply-requires-clause-valid g c = (visited_stays (take c.loop-i.i (map g.R.OptimizationRule.kind_of c.args.rules.now)) c.args.lp.now c.loop-i.lp c.args.ex.now c.loop-i.ex c.args.node (done_of c.loop-i.work) c.requires.plan c.loop-i.invariant.visited).valid

pub apply-requires-clause-fits : goal.apply-requires-clause-fits
apply-requires-clause-fits g c = let s = (visited_stays (take c.loop-i.i (map g.R.OptimizationRule.kind_of c.args.rules.now)) c.args.lp.now c.loop-i.lp c.args.ex.now c.loop-i.ex c.args.node (done_of c.loop-i.work) c.requires.plan c.loop-i.invariant.visited).weighs in omega (arith, s, c.requires.fits)

pub returns-in_err-done-clause-kinds : goal.returns-in_err-done-clause-kinds
returns-in_err-done-clause-kinds g c = map_set g.R.OptimizationRule.kind_of c.loop-i.rules c.loop-i.i c.index-rules-i.result c.apply.new.rule c.in_err-done.ensures.kind ∙ c.loop-i.invariant.kinds

pub returns-in_err-done-clause-owns : goal.returns-in_err-done-clause-owns
returns-in_err-done-clause-owns g c = map_set g.R.OptimizationRule.is_own c.loop-i.rules c.loop-i.i c.index-rules-i.result c.apply.new.rule c.in_err-done.ensures.own ∙ c.loop-i.invariant.owns

pub and-work-requires : goal.and-work-requires
and-work-requires g c =
    let next = visited_then (take c.loop-i.i (map g.R.OptimizationRule.kind_of c.args.rules.now)) ((g.R.OptimizationRule.kind_of (get_or c.loop-i.rules c.loop-i.i c.index-rules-i.result)) ∷ []) c.args.lp.now c.loop-i.lp c.apply.new.lp c.args.ex.now c.loop-i.ex c.apply.new.ex c.args.node (done_of c.loop-i.work) (done_of c.in_ok-done.done) c.loop-i.invariant.visited c.in_ok-done.ensures.applied in
    let s = (visited_stays (take c.loop-i.i (map g.R.OptimizationRule.kind_of c.args.rules.now) ++ (g.R.OptimizationRule.kind_of (get_or c.loop-i.rules c.loop-i.i c.index-rules-i.result)) ∷ []) c.args.lp.now c.apply.new.lp c.args.ex.now c.apply.new.ex c.args.node (both (done_of c.loop-i.work) (done_of c.in_ok-done.done)) c.requires.plan next).weighs in
    omega (arith, s, c.requires.fits)

pub loop-i-preserved : goal.loop-i-preserved
loop-i-preserved g c =
    let kinds : List RuleKind = (map g.R.OptimizationRule.kind_of c.args.rules.now) in
    let more : take (c.loop-i.i + 1) kinds ≡ take c.loop-i.i kinds ++ (g.R.OptimizationRule.kind_of (get_or c.loop-i.rules c.loop-i.i c.index-rules-i.result)) ∷ [] =
    rw (← c.loop-i.invariant.kinds) (take_map g.R.OptimizationRule.kind_of c.loop-i.rules c.loop-i.i c.index-rules-i.result (omega (arith, c.loop-i-test.true, c.loop-i.auto.rules))) in
    record {
      kinds = map_set g.R.OptimizationRule.kind_of c.loop-i.rules c.loop-i.i c.index-rules-i.result c.apply.new.rule c.in_ok-done.ensures.kind ∙ c.loop-i.invariant.kinds;
      owns = map_set g.R.OptimizationRule.is_own c.loop-i.rules c.loop-i.i c.index-rules-i.result c.apply.new.rule c.in_ok-done.ensures.own ∙ c.loop-i.invariant.owns;
      grows = omega (arith, c.in_ok-done.ensures.grows, c.loop-i.invariant.grows);
      longer = omega (arith, c.in_ok-done.ensures.longer, c.loop-i.invariant.longer);
      visited = rw c.and-work.ensures (visited_next kinds c.loop-i.i (g.R.OptimizationRule.kind_of (get_or c.loop-i.rules c.loop-i.i c.index-rules-i.result)) c.args.lp.now c.loop-i.lp c.apply.new.lp c.args.ex.now c.loop-i.ex c.apply.new.ex c.args.node (done_of c.loop-i.work) (done_of c.in_ok-done.done) more c.loop-i.invariant.visited c.in_ok-done.ensures.applied);
      told = λ o. until_next kinds c.loop-i.i (g.R.OptimizationRule.kind_of (get_or c.loop-i.rules c.loop-i.i c.index-rules-i.result)) (unmarked (plan_at c.args.lp.now c.args.ex.now c.args.node)) (unmarked (plan_at c.loop-i.lp c.loop-i.ex c.args.node)) (unmarked (plan_at c.apply.new.lp c.apply.new.ex c.args.node)) more (c.loop-i.invariant.told o) (c.in_ok-done.ensures.told (own_at g.R.OptimizationRule.is_own c.loop-i.rules c.loop-i.i c.index-rules-i.result (ap all_own c.loop-i.invariant.owns ∙ o) (omega (arith, c.loop-i-test.true, c.loop-i.auto.rules))));
    }

pub returns-clause-visited : goal.returns-clause-visited
returns-clause-visited g c =
    let kinds : List RuleKind = (map g.R.OptimizationRule.kind_of c.args.rules.now) in
    let e : take c.loop-i.i kinds ≡ kinds = take_map_all g.R.OptimizationRule.kind_of c.args.rules.now c.loop-i.i c.loop-i-test.false in
    (subst (λ (ks : List RuleKind). Visited ks c.args.lp.now c.loop-i.lp c.args.ex.now c.loop-i.ex c.args.node (done_of c.loop-i.work)) e c.loop-i.invariant.visited).done

pub returns-clause-told : goal.returns-clause-told
returns-clause-told g c = λ o.
    let kinds : List RuleKind = (map g.R.OptimizationRule.kind_of c.args.rules.now) in
    let e : take c.loop-i.i kinds ≡ kinds = take_map_all g.R.OptimizationRule.kind_of c.args.rules.now c.loop-i.i c.loop-i-test.false in
    subst (λ (ks : List RuleKind). UntilAll ks (unmarked (plan_at c.args.lp.now c.args.ex.now c.args.node)) (unmarked (plan_at c.loop-i.lp c.loop-i.ex c.args.node))) e (c.loop-i.invariant.told o)
