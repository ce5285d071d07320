use Rattle.std.proofs.Common.{arith, ◌≡◌, ◌<◌, ◌≤◌, ◌+◌, ◌||◌, ◌^◌, ◌++◌, refl, ap₂, ◌∙◌, false, map, List, Bool, length}
use Rattle.plan_meaning.specs.PlanAt.{plan_at}
use Rattle.plan_pass_laws.specs.Settling.{both}
use Rattle.plan_pass_laws.specs.Weights.{weight}
use Rattle.plan_reshape.specs.Walking.{all_own, done_of, no_round, one_more_round}
use Rattle.plan_reshape.proofs.Repeats.{since_first, since_stays, since_next, since_room, since_falls, since_end, since_settles, not_is_true, not_is_false}
use Rattle.plan_reshape.proofs.Sizes.{weight_fits}
use Rattle.plan_reshape.proofs.walks.repeat.Goals as goal

pub loop-work-init : goal.loop-work-init
loop-work-init g c = record { kinds = refl; owns = refl; extra_kinds = refl; extra_owns = refl; grows = omega arith; longer = omega arith; since = (false, since_first (map g.R.OptimizationRule.kind_of c.args.rules.now ++ map g.Q.OptimizationRule.kind_of c.args.extra.now) c.args.lp.now c.args.ex.now c.args.lp_top c.requires.valid); rounds = λ o. no_round }

pub walk-requires-clause-plan : goal.walk-requires-clause-plan
walk-requires-clause-plan g c = (since_stays (map g.R.OptimizationRule.kind_of c.args.rules.now ++ map g.Q.OptimizationRule.kind_of c.args.extra.now) c.args.lp.now c.loop-work.lp c.args.ex.now c.loop-work.ex c.args.lp_top (record { changed = c.loop-work.invariant.since.0; replaced = c.loop-work.replaced }) c.requires.plan c.loop-work.invariant.since.1).plan

pub walk-requires-clause-valid : goal.walk-requires-clause-valid
walk-requires-clause-valid g c = (since_stays (map g.R.OptimizationRule.kind_of c.args.rules.now ++ map g.Q.OptimizationRule.kind_of c.args.extra.now) c.args.lp.now c.loop-work.lp c.args.ex.now c.loop-work.ex c.args.lp_top (record { changed = c.loop-work.invariant.since.0; replaced = c.loop-work.replaced }) c.requires.plan c.loop-work.invariant.since.1).valid

pub walk-requires-clause-fits : goal.walk-requires-clause-fits
walk-requires-clause-fits g c = let s = (since_stays (map g.R.OptimizationRule.kind_of c.args.rules.now ++ map g.Q.OptimizationRule.kind_of c.args.extra.now) c.args.lp.now c.loop-work.lp c.args.ex.now c.loop-work.ex c.args.lp_top (record { changed = c.loop-work.invariant.since.0; replaced = c.loop-work.replaced }) c.requires.plan c.loop-work.invariant.since.1).weighs in let f = (weight_fits c.args.lp.now c.args.ex.now c.args.lp_top c.requires.plan (omega (arith, c.len.ensures.value, c.len.ensures.small)) (omega (arith, c.len-2.ensures.value, c.len-2.ensures.small))) in omega (arith, s, f)

pub overflow_add-replaced : goal.overflow_add-replaced
overflow_add-replaced g c =
    let s = since_room (map g.R.OptimizationRule.kind_of c.args.rules.now ++ map g.Q.OptimizationRule.kind_of c.args.extra.now) c.args.lp.now c.loop-work.lp c.walk.new.lp c.args.ex.now c.loop-work.ex c.walk.new.ex c.args.lp_top (record { changed = c.loop-work.invariant.since.0; replaced = c.loop-work.replaced }) (done_of c.in_ok-work.work) c.requires.plan c.loop-work.invariant.since.1 (rw (c.loop-work.invariant.kinds, c.loop-work.invariant.extra_kinds) at c.in_ok-work.ensures.walked) in
    let f = (weight_fits c.args.lp.now c.args.ex.now c.args.lp_top c.requires.plan (omega (arith, c.len.ensures.value, c.len.ensures.small)) (omega (arith, c.len-2.ensures.value, c.len-2.ensures.small))) in
    omega (arith, s, f)

pub returns-then-not-work-clause-is_plan : goal.returns-then-not-work-clause-is_plan
returns-then-not-work-clause-is_plan g c = (since_stays (map g.R.OptimizationRule.kind_of c.args.rules.now ++ map g.Q.OptimizationRule.kind_of c.args.extra.now) c.args.lp.now c.walk.new.lp c.args.ex.now c.walk.new.ex c.args.lp_top (both (record { changed = c.loop-work.invariant.since.0; replaced = c.loop-work.replaced }) (done_of c.in_ok-work.work)) c.requires.plan (since_next (map g.R.OptimizationRule.kind_of c.args.rules.now ++ map g.Q.OptimizationRule.kind_of c.args.extra.now) c.args.lp.now c.loop-work.lp c.walk.new.lp c.args.ex.now c.loop-work.ex c.walk.new.ex c.args.lp_top (record { changed = c.loop-work.invariant.since.0; replaced = c.loop-work.replaced }) (done_of c.in_ok-work.work) c.loop-work.invariant.since.1 (rw (c.loop-work.invariant.kinds, c.loop-work.invariant.extra_kinds) at c.in_ok-work.ensures.walked))).plan

pub returns-then-not-work-clause-in_place : goal.returns-then-not-work-clause-in_place
returns-then-not-work-clause-in_place g c = λ t e h. (since_end (map g.R.OptimizationRule.kind_of c.args.rules.now ++ map g.Q.OptimizationRule.kind_of c.args.extra.now) c.args.lp.now c.loop-work.lp c.walk.new.lp c.args.ex.now c.loop-work.ex c.walk.new.ex c.args.lp_top (record { changed = c.loop-work.invariant.since.0; replaced = c.loop-work.replaced }) (done_of c.in_ok-work.work) c.loop-work.invariant.since.1 (rw (c.loop-work.invariant.kinds, c.loop-work.invariant.extra_kinds) at c.in_ok-work.ensures.walked) (not_is_true c.in_ok-work.work.changed c.if-not-work.true) t e h).becomes

pub returns-then-not-work-clause-settles : goal.returns-then-not-work-clause-settles
returns-then-not-work-clause-settles g c = since_settles (map g.R.OptimizationRule.kind_of c.args.rules.now ++ map g.Q.OptimizationRule.kind_of c.args.extra.now) c.args.lp.now c.loop-work.lp c.walk.new.lp c.args.ex.now c.loop-work.ex c.walk.new.ex c.args.lp_top (record { changed = c.loop-work.invariant.since.0; replaced = c.loop-work.replaced }) (done_of c.in_ok-work.work) c.requires.plan c.loop-work.invariant.since.1 (rw (c.loop-work.invariant.kinds, c.loop-work.invariant.extra_kinds) at c.in_ok-work.ensures.walked) (not_is_true c.in_ok-work.work.changed c.if-not-work.true)

pub returns-then-not-work-clause-rounds : goal.returns-then-not-work-clause-rounds
returns-then-not-work-clause-rounds g c = (λ o. one_more_round (c.loop-work.invariant.rounds o) (rw (c.loop-work.invariant.kinds, c.loop-work.invariant.extra_kinds) at (c.in_ok-work.ensures.told (ap₂ (λ (x y : List Bool). all_own (x ++ y)) c.loop-work.invariant.owns c.loop-work.invariant.extra_owns ∙ o))))

pub loop-work-smaller : goal.loop-work-smaller
loop-work-smaller g c = since_falls (map g.R.OptimizationRule.kind_of c.args.rules.now ++ map g.Q.OptimizationRule.kind_of c.args.extra.now) c.args.lp.now c.loop-work.lp c.walk.new.lp c.args.ex.now c.loop-work.ex c.walk.new.ex c.args.lp_top (record { changed = c.loop-work.invariant.since.0; replaced = c.loop-work.replaced }) (done_of c.in_ok-work.work) c.requires.plan c.loop-work.invariant.since.1 (rw (c.loop-work.invariant.kinds, c.loop-work.invariant.extra_kinds) at c.in_ok-work.ensures.walked) (not_is_false c.in_ok-work.work.changed c.if-not-work.false)

pub loop-work-preserved : goal.loop-work-preserved
loop-work-preserved g c = record {
  kinds = c.in_ok-work.ensures.kinds ∙ c.loop-work.invariant.kinds;
  owns = c.in_ok-work.ensures.owns ∙ c.loop-work.invariant.owns;
  extra_kinds = c.in_ok-work.ensures.extra_kinds ∙ c.loop-work.invariant.extra_kinds;
  extra_owns = c.in_ok-work.ensures.extra_owns ∙ c.loop-work.invariant.extra_owns;
  grows = omega (arith, c.in_ok-work.ensures.grows, c.loop-work.invariant.grows);
  longer = omega (arith, c.in_ok-work.ensures.longer, c.loop-work.invariant.longer);
  since = ((c.loop-work.invariant.since.0 || c.in_ok-work.work.changed), since_next (map g.R.OptimizationRule.kind_of c.args.rules.now ++ map g.Q.OptimizationRule.kind_of c.args.extra.now) c.args.lp.now c.loop-work.lp c.walk.new.lp c.args.ex.now c.loop-work.ex c.walk.new.ex c.args.lp_top (record { changed = c.loop-work.invariant.since.0; replaced = c.loop-work.replaced }) (done_of c.in_ok-work.work) c.loop-work.invariant.since.1 (rw (c.loop-work.invariant.kinds, c.loop-work.invariant.extra_kinds) at c.in_ok-work.ensures.walked));
  rounds = (λ o. one_more_round (c.loop-work.invariant.rounds o) (rw (c.loop-work.invariant.kinds, c.loop-work.invariant.extra_kinds) at (c.in_ok-work.ensures.told (ap₂ (λ (x y : List Bool). all_own (x ++ y)) c.loop-work.invariant.owns c.loop-work.invariant.extra_owns ∙ o))));
}
