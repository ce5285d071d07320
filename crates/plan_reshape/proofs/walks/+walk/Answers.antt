use Rattle.std.proofs.Common.{arith, ◌≡◌, ◌+◌, ◌<◌, ◌≤◌, ◌^◌, [], ◌∷◌, ◌++◌, refl, sym, subst, ap, ap₂, ◌∙◌, map, List, Bool, length}
use Rattle.plan_core.specs.declared.arena.Node.{Node}
use Rattle.plan_ir.specs.Parts.{inputs_of}
use Rattle.plan_ir.specs.Plans.{Plan, bare, plans_of}
use Rattle.plan_meaning.specs.Marks.{unmarked}
use Rattle.plan_meaning.specs.PlanAt.{plan_at}
use Rattle.plan_pass_laws.specs.Settling.{both}
use Rattle.plan_pass_laws.specs.Walks.{UntilAll}
use Rattle.plan_pass_laws.specs.Weights.{weight, weight_in}
use Rattle.plan_reshape.specs.Walking.{all_own, done_of}
use Rattle.plan_reshape.proofs.Inputs.{Left, end_fits, falls_to, fits_below, inputs_ask, left_at, left_first, left_next, no_inputs, under_of, walked_end, walked_told}
use Rattle.plan_reshape.proofs.Brings.{stays}
use Rattle.plan_reshape.proofs.Listed.{top_exprs}
use Rattle.plan_reshape.proofs.Visits.{visited_stays}
use Rattle.plan_reshape.proofs.walks.+walk.Goals as goal

pub walk_exprs-requires-clause-plan : goal.walk_exprs-requires-clause-plan
walk_exprs-requires-clause-plan g t c = (visited_stays (map g.R.OptimizationRule.kind_of c.args.rules.now ++ map g.Q.OptimizationRule.kind_of c.args.extra.now) c.args.lp.now c.visit_both.new.lp c.args.ex.now c.visit_both.new.ex c.args.node (done_of c.in_ok-top.top) c.requires.plan (record { done = c.in_ok-top.ensures.visited })).plan

pub walk_exprs-requires-clause-valid : goal.walk_exprs-requires-clause-valid
walk_exprs-requires-clause-valid g t c = (visited_stays (map g.R.OptimizationRule.kind_of c.args.rules.now ++ map g.Q.OptimizationRule.kind_of c.args.extra.now) c.args.lp.now c.visit_both.new.lp c.args.ex.now c.visit_both.new.ex c.args.node (done_of c.in_ok-top.top) c.requires.plan (record { done = c.in_ok-top.ensures.visited })).valid

pub walk_exprs-requires-clause-fits : goal.walk_exprs-requires-clause-fits
walk_exprs-requires-clause-fits g t c = let s = (visited_stays (map g.R.OptimizationRule.kind_of c.args.rules.now ++ map g.Q.OptimizationRule.kind_of c.args.extra.now) c.args.lp.now c.visit_both.new.lp c.args.ex.now c.visit_both.new.ex c.args.node (done_of c.in_ok-top.top) c.requires.plan (record { done = c.in_ok-top.ensures.visited })).weighs in omega (arith, s, c.requires.fits)

pub and-above-requires : goal.and-above-requires
and-above-requires g t c =
    let s = (stays (map g.R.OptimizationRule.kind_of c.args.rules.now ++ map g.Q.OptimizationRule.kind_of c.args.extra.now) c.args.lp.now c.visit_both.new.lp c.args.ex.now c.walk_exprs.new.ex c.args.node c.requires.plan.nodes c.requires.plan.exprs (both (done_of c.in_ok-top.top) (done_of c.in_ok-exprs.exprs)) c.requires.plan.stands (top_exprs (map g.R.OptimizationRule.kind_of c.args.rules.now ++ map g.Q.OptimizationRule.kind_of c.args.extra.now) c.args.lp.now c.visit_both.new.lp c.args.ex.now c.visit_both.new.ex c.walk_exprs.new.ex c.args.node c.requires.plan.nodes c.requires.plan.exprs (done_of c.in_ok-top.top) (done_of c.in_ok-exprs.exprs) (c.in_ok-top.ensures.visited c.requires.plan.nodes c.requires.plan.exprs c.requires.plan.stands) (rw (c.in_ok-top.ensures.kinds, c.in_ok-top.ensures.extra_kinds) at c.in_ok-exprs.ensures.brought)).brought).weighs in
    omega (arith, s, c.requires.fits)

pub inputs_at-requires : goal.inputs_at-requires
inputs_at-requires g t c = (visited_stays (map g.R.OptimizationRule.kind_of c.args.rules.now ++ map g.Q.OptimizationRule.kind_of c.args.extra.now) c.args.lp.now c.visit_both.new.lp c.args.ex.now c.visit_both.new.ex c.args.node (done_of c.in_ok-top.top) c.requires.plan (record { done = c.in_ok-top.ensures.visited })).inside

pub loop-input-init : goal.loop-input-init
loop-input-init g t c = record { kinds = refl; owns = refl; extra_kinds = refl; extra_owns = refl; grows = omega arith; longer = omega arith; left = rw c.none-work.ensures (left_first (map g.R.OptimizationRule.kind_of c.walk_exprs.new.rules ++ map g.Q.OptimizationRule.kind_of c.walk_exprs.new.extra) (all_own (map g.R.OptimizationRule.is_own c.walk_exprs.new.rules ++ map g.Q.OptimizationRule.is_own c.walk_exprs.new.extra)) c.visit_both.new.lp c.walk_exprs.new.ex c.in_ok-inputs.inputs) }

pub walk-requires : goal.walk-requires
walk-requires g t c κs within =
    let k = inputs_ask (map g.R.OptimizationRule.kind_of c.args.rules.now ++ map g.Q.OptimizationRule.kind_of c.args.extra.now) (map g.R.OptimizationRule.kind_of c.walk_exprs.new.rules ++ map g.Q.OptimizationRule.kind_of c.walk_exprs.new.extra) (all_own (map g.R.OptimizationRule.is_own c.walk_exprs.new.rules ++ map g.Q.OptimizationRule.is_own c.walk_exprs.new.extra)) c.args.lp.now c.visit_both.new.lp c.loop-input.lp c.args.ex.now c.walk_exprs.new.ex c.loop-input.ex c.args.node c.in_ok-inputs.ensures.inputs.0 c.requires.plan.nodes c.requires.plan.exprs (both (done_of c.in_ok-top.top) (done_of c.in_ok-exprs.exprs)) (done_of c.loop-input.work) c.in_ok-inputs.inputs c.loop-input.inputs c.pop.new.self c.in-Some.input c.requires.plan.stands (top_exprs (map g.R.OptimizationRule.kind_of c.args.rules.now ++ map g.Q.OptimizationRule.kind_of c.args.extra.now) c.args.lp.now c.visit_both.new.lp c.args.ex.now c.visit_both.new.ex c.walk_exprs.new.ex c.args.node c.requires.plan.nodes c.requires.plan.exprs (done_of c.in_ok-top.top) (done_of c.in_ok-exprs.exprs) (c.in_ok-top.ensures.visited c.requires.plan.nodes c.requires.plan.exprs c.requires.plan.stands) (rw (c.in_ok-top.ensures.kinds, c.in_ok-top.ensures.extra_kinds) at c.in_ok-exprs.ensures.brought)) c.in_ok-inputs.ensures.inputs.1 c.in_ok-inputs.ensures.inputs.2 c.in-Some.ensures c.loop-input.invariant.left in
    (falls_to (weight (plan_at c.loop-input.lp c.loop-input.ex c.in-Some.input)) (weight (plan_at c.args.lp.now c.args.ex.now c.args.node)) t k.less c.decreases, (within.0, (within.1, (k.plan, (k.valid, fits_below (weight (plan_at c.loop-input.lp c.loop-input.ex c.in-Some.input)) (weight (plan_at c.args.lp.now c.args.ex.now c.args.node)) k.less c.requires.fits)))))

pub and-work-requires : goal.and-work-requires
and-work-requires g t c =
    let u = (under_of (map g.R.OptimizationRule.kind_of c.args.rules.now ++ map g.Q.OptimizationRule.kind_of c.args.extra.now) c.args.lp.now c.visit_both.new.lp c.args.ex.now c.walk_exprs.new.ex c.args.node c.in_ok-inputs.ensures.inputs.0 c.requires.plan.nodes c.requires.plan.exprs (done_of c.and-above.result) c.requires.plan.stands (rw c.and-above.ensures (top_exprs (map g.R.OptimizationRule.kind_of c.args.rules.now ++ map g.Q.OptimizationRule.kind_of c.args.extra.now) c.args.lp.now c.visit_both.new.lp c.args.ex.now c.visit_both.new.ex c.walk_exprs.new.ex c.args.node c.requires.plan.nodes c.requires.plan.exprs (done_of c.in_ok-top.top) (done_of c.in_ok-exprs.exprs) (c.in_ok-top.ensures.visited c.requires.plan.nodes c.requires.plan.exprs c.requires.plan.stands) (rw (c.in_ok-top.ensures.kinds, c.in_ok-top.ensures.extra_kinds) at c.in_ok-exprs.ensures.brought))) c.in_ok-inputs.ensures.inputs.1) in
    let k = end_fits (map g.R.OptimizationRule.kind_of c.args.rules.now ++ map g.Q.OptimizationRule.kind_of c.args.extra.now) (map g.R.OptimizationRule.kind_of c.walk_exprs.new.rules ++ map g.Q.OptimizationRule.kind_of c.walk_exprs.new.extra) (all_own (map g.R.OptimizationRule.is_own c.walk_exprs.new.rules ++ map g.Q.OptimizationRule.is_own c.walk_exprs.new.extra)) c.args.lp.now c.visit_both.new.lp c.walk.new.lp c.args.ex.now c.walk_exprs.new.ex c.walk.new.ex c.args.node c.in_ok-inputs.ensures.inputs.0 c.pop.new.self c.requires.plan.nodes c.requires.plan.exprs (done_of c.and-above.result) (both (done_of c.loop-input.work) (done_of c.in_ok-done.done)) u (left_at (map g.R.OptimizationRule.kind_of c.walk_exprs.new.rules ++ map g.Q.OptimizationRule.kind_of c.walk_exprs.new.extra) (all_own (map g.R.OptimizationRule.is_own c.walk_exprs.new.rules ++ map g.Q.OptimizationRule.is_own c.walk_exprs.new.extra)) c.visit_both.new.lp c.walk.new.lp c.walk_exprs.new.ex c.walk.new.ex c.in_ok-inputs.inputs (inputs_of c.in_ok-inputs.ensures.inputs.0) c.pop.new.self (both (done_of c.loop-input.work) (done_of c.in_ok-done.done)) c.in_ok-inputs.ensures.inputs.2 (left_next (map g.R.OptimizationRule.kind_of c.walk_exprs.new.rules ++ map g.Q.OptimizationRule.kind_of c.walk_exprs.new.extra) (all_own (map g.R.OptimizationRule.is_own c.walk_exprs.new.rules ++ map g.Q.OptimizationRule.is_own c.walk_exprs.new.extra)) c.visit_both.new.lp c.loop-input.lp c.walk.new.lp c.walk_exprs.new.ex c.loop-input.ex c.walk.new.ex c.in_ok-inputs.inputs c.loop-input.inputs c.pop.new.self c.in-Some.input (done_of c.loop-input.work) (done_of c.in_ok-done.done) c.in-Some.ensures c.loop-input.invariant.left (rw (c.loop-input.invariant.kinds, c.loop-input.invariant.extra_kinds) at c.in_ok-done.ensures.walked) (λ o. rw (c.loop-input.invariant.kinds, c.loop-input.invariant.extra_kinds) at (c.in_ok-done.ensures.told (ap₂ (λ (x y : List Bool). all_own (x ++ y)) c.loop-input.invariant.owns c.loop-input.invariant.extra_owns ∙ o))))) in
    omega (arith, k, c.requires.fits)

pub loop-input-preserved : goal.loop-input-preserved
loop-input-preserved g t c = record {
  kinds = c.in_ok-done.ensures.kinds ∙ c.loop-input.invariant.kinds;
  owns = c.in_ok-done.ensures.owns ∙ c.loop-input.invariant.owns;
  extra_kinds = c.in_ok-done.ensures.extra_kinds ∙ c.loop-input.invariant.extra_kinds;
  extra_owns = c.in_ok-done.ensures.extra_owns ∙ c.loop-input.invariant.extra_owns;
  grows = omega (arith, c.in_ok-done.ensures.grows, c.loop-input.invariant.grows);
  longer = omega (arith, c.in_ok-done.ensures.longer, c.loop-input.invariant.longer);
  left = rw c.and-work.ensures (left_next (map g.R.OptimizationRule.kind_of c.walk_exprs.new.rules ++ map g.Q.OptimizationRule.kind_of c.walk_exprs.new.extra) (all_own (map g.R.OptimizationRule.is_own c.walk_exprs.new.rules ++ map g.Q.OptimizationRule.is_own c.walk_exprs.new.extra)) c.visit_both.new.lp c.loop-input.lp c.walk.new.lp c.walk_exprs.new.ex c.loop-input.ex c.walk.new.ex c.in_ok-inputs.inputs c.loop-input.inputs c.pop.new.self c.in-Some.input (done_of c.loop-input.work) (done_of c.in_ok-done.done) c.in-Some.ensures c.loop-input.invariant.left (rw (c.loop-input.invariant.kinds, c.loop-input.invariant.extra_kinds) at c.in_ok-done.ensures.walked) (λ o. rw (c.loop-input.invariant.kinds, c.loop-input.invariant.extra_kinds) at (c.in_ok-done.ensures.told (ap₂ (λ (x y : List Bool). all_own (x ++ y)) c.loop-input.invariant.owns c.loop-input.invariant.extra_owns ∙ o))));
}

pub and-requires : goal.and-requires
and-requires g t c =
    let u = (under_of (map g.R.OptimizationRule.kind_of c.args.rules.now ++ map g.Q.OptimizationRule.kind_of c.args.extra.now) c.args.lp.now c.visit_both.new.lp c.args.ex.now c.walk_exprs.new.ex c.args.node c.in_ok-inputs.ensures.inputs.0 c.requires.plan.nodes c.requires.plan.exprs (done_of c.and-above.result) c.requires.plan.stands (rw c.and-above.ensures (top_exprs (map g.R.OptimizationRule.kind_of c.args.rules.now ++ map g.Q.OptimizationRule.kind_of c.args.extra.now) c.args.lp.now c.visit_both.new.lp c.args.ex.now c.visit_both.new.ex c.walk_exprs.new.ex c.args.node c.requires.plan.nodes c.requires.plan.exprs (done_of c.in_ok-top.top) (done_of c.in_ok-exprs.exprs) (c.in_ok-top.ensures.visited c.requires.plan.nodes c.requires.plan.exprs c.requires.plan.stands) (rw (c.in_ok-top.ensures.kinds, c.in_ok-top.ensures.extra_kinds) at c.in_ok-exprs.ensures.brought))) c.in_ok-inputs.ensures.inputs.1) in
    let k = end_fits (map g.R.OptimizationRule.kind_of c.args.rules.now ++ map g.Q.OptimizationRule.kind_of c.args.extra.now) (map g.R.OptimizationRule.kind_of c.walk_exprs.new.rules ++ map g.Q.OptimizationRule.kind_of c.walk_exprs.new.extra) (all_own (map g.R.OptimizationRule.is_own c.walk_exprs.new.rules ++ map g.Q.OptimizationRule.is_own c.walk_exprs.new.extra)) c.args.lp.now c.visit_both.new.lp c.loop-input.lp c.args.ex.now c.walk_exprs.new.ex c.loop-input.ex c.args.node c.in_ok-inputs.ensures.inputs.0 c.loop-input.inputs c.requires.plan.nodes c.requires.plan.exprs (done_of c.and-above.result) (done_of c.loop-input.work) u (left_at (map g.R.OptimizationRule.kind_of c.walk_exprs.new.rules ++ map g.Q.OptimizationRule.kind_of c.walk_exprs.new.extra) (all_own (map g.R.OptimizationRule.is_own c.walk_exprs.new.rules ++ map g.Q.OptimizationRule.is_own c.walk_exprs.new.extra)) c.visit_both.new.lp c.loop-input.lp c.walk_exprs.new.ex c.loop-input.ex c.in_ok-inputs.inputs (inputs_of c.in_ok-inputs.ensures.inputs.0) c.loop-input.inputs (done_of c.loop-input.work) c.in_ok-inputs.ensures.inputs.2 c.loop-input.invariant.left) in
    omega (arith, k, c.requires.fits)

pub returns-clause-walked : goal.returns-clause-walked
returns-clause-walked g t c = λ f e h.
    let u = (under_of (map g.R.OptimizationRule.kind_of c.args.rules.now ++ map g.Q.OptimizationRule.kind_of c.args.extra.now) c.args.lp.now c.visit_both.new.lp c.args.ex.now c.walk_exprs.new.ex c.args.node c.in_ok-inputs.ensures.inputs.0 f e (done_of c.and-above.result) h (rw c.and-above.ensures (top_exprs (map g.R.OptimizationRule.kind_of c.args.rules.now ++ map g.Q.OptimizationRule.kind_of c.args.extra.now) c.args.lp.now c.visit_both.new.lp c.args.ex.now c.visit_both.new.ex c.walk_exprs.new.ex c.args.node f e (done_of c.in_ok-top.top) (done_of c.in_ok-exprs.exprs) (c.in_ok-top.ensures.visited f e h) (rw (c.in_ok-top.ensures.kinds, c.in_ok-top.ensures.extra_kinds) at c.in_ok-exprs.ensures.brought))) c.in_ok-inputs.ensures.inputs.1) in
    rw c.and.ensures (walked_end (map g.R.OptimizationRule.kind_of c.args.rules.now ++ map g.Q.OptimizationRule.kind_of c.args.extra.now) (all_own (map g.R.OptimizationRule.is_own c.walk_exprs.new.rules ++ map g.Q.OptimizationRule.is_own c.walk_exprs.new.extra)) c.args.lp.now c.visit_both.new.lp c.loop-input.lp c.args.ex.now c.walk_exprs.new.ex c.loop-input.ex c.args.node c.in_ok-inputs.ensures.inputs.0 f e (done_of c.and-above.result) (done_of c.loop-input.work) h u (no_inputs c.loop-input.inputs c.in_default.ensures.0 (rw (c.in_ok-exprs.ensures.kinds, c.in_ok-exprs.ensures.extra_kinds, c.in_ok-top.ensures.kinds, c.in_ok-top.ensures.extra_kinds) at (left_at (map g.R.OptimizationRule.kind_of c.walk_exprs.new.rules ++ map g.Q.OptimizationRule.kind_of c.walk_exprs.new.extra) (all_own (map g.R.OptimizationRule.is_own c.walk_exprs.new.rules ++ map g.Q.OptimizationRule.is_own c.walk_exprs.new.extra)) c.visit_both.new.lp c.loop-input.lp c.walk_exprs.new.ex c.loop-input.ex c.in_ok-inputs.inputs (inputs_of c.in_ok-inputs.ensures.inputs.0) c.loop-input.inputs (done_of c.loop-input.work) c.in_ok-inputs.ensures.inputs.2 c.loop-input.invariant.left))))

pub returns-clause-told : goal.returns-clause-told
returns-clause-told g t c = λ o.
    let u = (under_of (map g.R.OptimizationRule.kind_of c.args.rules.now ++ map g.Q.OptimizationRule.kind_of c.args.extra.now) c.args.lp.now c.visit_both.new.lp c.args.ex.now c.walk_exprs.new.ex c.args.node c.in_ok-inputs.ensures.inputs.0 c.requires.plan.nodes c.requires.plan.exprs (done_of c.and-above.result) c.requires.plan.stands (rw c.and-above.ensures (top_exprs (map g.R.OptimizationRule.kind_of c.args.rules.now ++ map g.Q.OptimizationRule.kind_of c.args.extra.now) c.args.lp.now c.visit_both.new.lp c.args.ex.now c.visit_both.new.ex c.walk_exprs.new.ex c.args.node c.requires.plan.nodes c.requires.plan.exprs (done_of c.in_ok-top.top) (done_of c.in_ok-exprs.exprs) (c.in_ok-top.ensures.visited c.requires.plan.nodes c.requires.plan.exprs c.requires.plan.stands) (rw (c.in_ok-top.ensures.kinds, c.in_ok-top.ensures.extra_kinds) at c.in_ok-exprs.ensures.brought))) c.in_ok-inputs.ensures.inputs.1) in
    let owns = ap₂ (λ (x y : List Bool). all_own (x ++ y)) c.in_ok-top.ensures.owns c.in_ok-top.ensures.extra_owns in
    let still = ap₂ (λ (x y : List Bool). all_own (x ++ y)) c.in_ok-exprs.ensures.owns c.in_ok-exprs.ensures.extra_owns in
    let same : plan_at c.visit_both.new.lp c.walk_exprs.new.ex c.args.node ≡ plan_at c.visit_both.new.lp c.visit_both.new.ex c.args.node = c.in_ok-exprs.ensures.told (owns ∙ o) in
    let until = subst (λ (q : Plan). UntilAll (map g.R.OptimizationRule.kind_of c.args.rules.now ++ map g.Q.OptimizationRule.kind_of c.args.extra.now) (unmarked (plan_at c.args.lp.now c.args.ex.now c.args.node)) (unmarked q)) (sym same) (c.in_ok-top.ensures.told o) in
    walked_told (map g.R.OptimizationRule.kind_of c.args.rules.now ++ map g.Q.OptimizationRule.kind_of c.args.extra.now) (all_own (map g.R.OptimizationRule.is_own c.walk_exprs.new.rules ++ map g.Q.OptimizationRule.is_own c.walk_exprs.new.extra)) c.args.lp.now c.visit_both.new.lp c.loop-input.lp c.args.ex.now c.walk_exprs.new.ex c.loop-input.ex c.args.node c.in_ok-inputs.ensures.inputs.0 c.requires.plan.nodes c.requires.plan.exprs (done_of c.and-above.result) (done_of c.loop-input.work) u (no_inputs c.loop-input.inputs c.in_default.ensures.0 (rw (c.in_ok-exprs.ensures.kinds, c.in_ok-exprs.ensures.extra_kinds, c.in_ok-top.ensures.kinds, c.in_ok-top.ensures.extra_kinds) at (left_at (map g.R.OptimizationRule.kind_of c.walk_exprs.new.rules ++ map g.Q.OptimizationRule.kind_of c.walk_exprs.new.extra) (all_own (map g.R.OptimizationRule.is_own c.walk_exprs.new.rules ++ map g.Q.OptimizationRule.is_own c.walk_exprs.new.extra)) c.visit_both.new.lp c.loop-input.lp c.walk_exprs.new.ex c.loop-input.ex c.in_ok-inputs.inputs (inputs_of c.in_ok-inputs.ensures.inputs.0) c.loop-input.inputs (done_of c.loop-input.work) c.in_ok-inputs.ensures.inputs.2 c.loop-input.invariant.left))) (still ∙ owns ∙ o) until
