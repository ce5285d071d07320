use Rattle.std.proofs.Common.{arith, ◌≡◌, ◌<◌, ◌≤◌, ◌+◌, ◌^◌, length, refl, sym, ◌∙◌, ap, length-set}
use Rattle.plan_pass_laws.specs.Patterns.{is_counted}
use Rattle.plan_meaning.specs.PlanAt.{plan_at}
use Rattle.plan_pass_laws.specs.Weights.{weight}
use Rattle.plan_reshape.proofs.Brings.{tried_first, tried_stays, tried_counted, tried_silent, tried_falls, tried_room, tried_end}
use Rattle.plan_reshape.proofs.Told.{onward_end, onward_next}
use Rattle.plan_reshape.proofs.nodes.apply.Goals as goal

pub loop-entry-init : goal.loop-entry-init
loop-entry-init g c = record { kind = refl; own = refl; grows = omega arith; longer = omega arith; tried = tried_first (g.R.OptimizationRule.kind_of c.args.rule.now) c.args.lp.now c.args.ex.now c.args.node c.requires.valid; told = λ o r u. u }

pub optimize_plan-requires-clause-plan : goal.optimize_plan-requires-clause-plan
optimize_plan-requires-clause-plan g c = (tried_stays (g.R.OptimizationRule.kind_of c.args.rule.now) c.args.lp.now c.loop-entry.lp c.args.ex.now c.loop-entry.ex c.args.node (record { changed = c.loop-entry.changed; replaced = c.loop-entry.replaced }) c.requires.plan c.loop-entry.invariant.tried).plan

pub optimize_plan-requires-clause-valid : goal.optimize_plan-requires-clause-valid
optimize_plan-requires-clause-valid g c = (tried_stays (g.R.OptimizationRule.kind_of c.args.rule.now) c.args.lp.now c.loop-entry.lp c.args.ex.now c.loop-entry.ex c.args.node (record { changed = c.loop-entry.changed; replaced = c.loop-entry.replaced }) c.requires.plan c.loop-entry.invariant.tried).valid

pub put-requires : goal.put-requires
put-requires g c = let s = (tried_stays (g.R.OptimizationRule.kind_of c.args.rule.now) c.args.lp.now c.loop-entry.lp c.args.ex.now c.loop-entry.ex c.args.node (record { changed = c.loop-entry.changed; replaced = c.loop-entry.replaced }) c.requires.plan c.loop-entry.invariant.tried).inside in omega (arith, s, c.in_ok-entry.ensures.grows)

pub overflow_add-replaced : goal.overflow_add-replaced
overflow_add-replaced g c = let s = tried_room (g.R.OptimizationRule.kind_of c.args.rule.now) (g.R.OptimizationRule.is_own c.loop-entry.rule) c.args.lp.now c.loop-entry.lp c.optimize_plan.new.lp c.args.ex.now c.loop-entry.ex c.optimize_plan.new.ex c.args.node c.in-Some.entry (record { changed = c.loop-entry.changed; replaced = c.loop-entry.replaced }) c.requires.plan c.loop-entry.invariant.tried (rw (c.in-Some.is, c.loop-entry.invariant.kind) at c.in_ok-entry.ensures.answers) in omega (arith, s, c.requires.fits)

pub loop-entry-smaller-then-counted : goal.loop-entry-smaller-then-counted
loop-entry-smaller-then-counted g c = rw c.put.ensures (tried_falls (g.R.OptimizationRule.kind_of c.args.rule.now) (g.R.OptimizationRule.is_own c.loop-entry.rule) c.args.lp.now c.loop-entry.lp c.optimize_plan.new.lp c.args.ex.now c.loop-entry.ex c.optimize_plan.new.ex c.args.node c.in-Some.entry (record { changed = c.loop-entry.changed; replaced = c.loop-entry.replaced }) c.requires.plan c.loop-entry.invariant.tried (rw (c.in-Some.is, c.loop-entry.invariant.kind) at c.in_ok-entry.ensures.answers))

pub loop-entry-preserved-then-counted : goal.loop-entry-preserved-then-counted
loop-entry-preserved-then-counted g c = record {
  kind = c.in_ok-entry.ensures.kind ∙ c.loop-entry.invariant.kind;
  own = c.in_ok-entry.ensures.own ∙ c.loop-entry.invariant.own;
  grows = omega (arith, c.in_ok-entry.ensures.grows, c.loop-entry.invariant.grows, ap length c.put.ensures, length-set c.optimize_plan.new.lp c.args.node.0 c.in-Some.entry);
  longer = omega (arith, c.in_ok-entry.ensures.longer, c.loop-entry.invariant.longer);
  tried = rw c.put.ensures (tried_counted (g.R.OptimizationRule.kind_of c.args.rule.now) (g.R.OptimizationRule.is_own c.loop-entry.rule) c.args.lp.now c.loop-entry.lp c.optimize_plan.new.lp c.args.ex.now c.loop-entry.ex c.optimize_plan.new.ex c.args.node c.in-Some.entry (record { changed = c.loop-entry.changed; replaced = c.loop-entry.replaced }) (ap is_counted (sym c.kind.ensures) ∙ sym c.counts-counted.ensures ∙ c.if-counted.true) c.loop-entry.invariant.tried (rw (c.in-Some.is, c.loop-entry.invariant.kind) at c.in_ok-entry.ensures.answers));
  told = rw c.put.ensures (onward_next (g.R.OptimizationRule.kind_of c.args.rule.now) (g.R.OptimizationRule.is_own c.args.rule.now) c.args.lp.now c.loop-entry.lp c.optimize_plan.new.lp c.args.ex.now c.loop-entry.ex c.optimize_plan.new.ex c.args.node c.in-Some.entry ((tried_stays (g.R.OptimizationRule.kind_of c.args.rule.now) c.args.lp.now c.loop-entry.lp c.args.ex.now c.loop-entry.ex c.args.node (record { changed = c.loop-entry.changed; replaced = c.loop-entry.replaced }) c.requires.plan c.loop-entry.invariant.tried).plan) c.loop-entry.invariant.told (rw (c.in-Some.is, c.loop-entry.invariant.kind, c.loop-entry.invariant.own) at c.in_ok-entry.ensures.answers));
}

pub loop-entry-smaller : goal.loop-entry-smaller
loop-entry-smaller g c = rw c.put.ensures (tried_falls (g.R.OptimizationRule.kind_of c.args.rule.now) (g.R.OptimizationRule.is_own c.loop-entry.rule) c.args.lp.now c.loop-entry.lp c.optimize_plan.new.lp c.args.ex.now c.loop-entry.ex c.optimize_plan.new.ex c.args.node c.in-Some.entry (record { changed = c.loop-entry.changed; replaced = c.loop-entry.replaced }) c.requires.plan c.loop-entry.invariant.tried (rw (c.in-Some.is, c.loop-entry.invariant.kind) at c.in_ok-entry.ensures.answers))

pub loop-entry-preserved : goal.loop-entry-preserved
loop-entry-preserved g c = record {
  kind = c.in_ok-entry.ensures.kind ∙ c.loop-entry.invariant.kind;
  own = c.in_ok-entry.ensures.own ∙ c.loop-entry.invariant.own;
  grows = omega (arith, c.in_ok-entry.ensures.grows, c.loop-entry.invariant.grows, ap length c.put.ensures, length-set c.optimize_plan.new.lp c.args.node.0 c.in-Some.entry);
  longer = omega (arith, c.in_ok-entry.ensures.longer, c.loop-entry.invariant.longer);
  tried = rw c.put.ensures (tried_silent (g.R.OptimizationRule.kind_of c.args.rule.now) (g.R.OptimizationRule.is_own c.loop-entry.rule) c.args.lp.now c.loop-entry.lp c.optimize_plan.new.lp c.args.ex.now c.loop-entry.ex c.optimize_plan.new.ex c.args.node c.in-Some.entry (record { changed = c.loop-entry.changed; replaced = c.loop-entry.replaced }) (ap is_counted (sym c.kind.ensures) ∙ sym c.counts-counted.ensures ∙ c.if-counted.false) c.loop-entry.invariant.tried (rw (c.in-Some.is, c.loop-entry.invariant.kind) at c.in_ok-entry.ensures.answers));
  told = rw c.put.ensures (onward_next (g.R.OptimizationRule.kind_of c.args.rule.now) (g.R.OptimizationRule.is_own c.args.rule.now) c.args.lp.now c.loop-entry.lp c.optimize_plan.new.lp c.args.ex.now c.loop-entry.ex c.optimize_plan.new.ex c.args.node c.in-Some.entry ((tried_stays (g.R.OptimizationRule.kind_of c.args.rule.now) c.args.lp.now c.loop-entry.lp c.args.ex.now c.loop-entry.ex c.args.node (record { changed = c.loop-entry.changed; replaced = c.loop-entry.replaced }) c.requires.plan c.loop-entry.invariant.tried).plan) c.loop-entry.invariant.told (rw (c.in-Some.is, c.loop-entry.invariant.kind, c.loop-entry.invariant.own) at c.in_ok-entry.ensures.answers));
}

pub returns-clause-applied : goal.returns-clause-applied
returns-clause-applied g c = tried_end (g.R.OptimizationRule.kind_of c.args.rule.now) (g.R.OptimizationRule.is_own c.loop-entry.rule) c.args.lp.now c.loop-entry.lp c.optimize_plan.new.lp c.args.ex.now c.loop-entry.ex c.optimize_plan.new.ex c.args.node (record { changed = c.loop-entry.changed; replaced = c.loop-entry.replaced }) c.loop-entry.invariant.tried (rw (c.in_default.is, c.loop-entry.invariant.kind) at c.in_ok-entry.ensures.answers)

pub returns-clause-told : goal.returns-clause-told
returns-clause-told g c = onward_end (g.R.OptimizationRule.kind_of c.args.rule.now) (g.R.OptimizationRule.is_own c.args.rule.now) c.args.lp.now c.loop-entry.lp c.optimize_plan.new.lp c.args.ex.now c.loop-entry.ex c.optimize_plan.new.ex c.args.node ((tried_stays (g.R.OptimizationRule.kind_of c.args.rule.now) c.args.lp.now c.loop-entry.lp c.args.ex.now c.loop-entry.ex c.args.node (record { changed = c.loop-entry.changed; replaced = c.loop-entry.replaced }) c.requires.plan c.loop-entry.invariant.tried).plan) c.loop-entry.invariant.told (rw (c.in_default.is, c.loop-entry.invariant.kind, c.loop-entry.invariant.own) at c.in_ok-entry.ensures.answers)
