use Rattle.std.proofs.Common.{List, Option, sym, subst}
use Rattle.plan_core.specs.declared.arena.Node.{Node}
use Rattle.plan_cluster.specs.Chains.{TakenOne}
use Rattle.plan_cluster.proofs.Runs.{Taking, none_if, taking_end, taking_falls, taking_first, taking_low, taking_next}
use Rattle.plan_cluster.proofs.run.take_run.Goals as goal

pub loop-input-init : goal.loop-input-init
loop-input-init c = taking_first c.args.lp.now c.args.node c.args.places.now.items c.args.run.now.items c.requires.run c.requires.places

pub take_addition-requires : goal.take_addition-requires
take_addition-requires c = taking_low c.args.lp.now c.loop-input.lp c.args.node c.requires.plan c.loop-input.places.items c.loop-input.run.items c.loop-input.below c.loop-input.invariant

pub loop-input-smaller : goal.loop-input-smaller
loop-input-smaller c =
    taking_falls c.args.lp.now c.loop-input.lp c.args.node c.requires.plan c.loop-input.places.items c.loop-input.run.items c.loop-input.below c.loop-input.invariant
    c.take_addition.new.lp c.in_ok-input.ensures.0 c.in_ok-input.ensures.1 c.take_addition.new.run.items c.in-Some.input
    (subst (λ (o : Option Node). TakenOne c.loop-input.lp c.take_addition.new.lp c.loop-input.below c.in_ok-input.ensures.0 c.loop-input.run.items c.take_addition.new.run.items o) c.in-Some.is c.in_ok-input.ensures.2)

pub loop-input-preserved : goal.loop-input-preserved
loop-input-preserved c =
    subst (λ (l : List Node). Taking c.args.lp.now c.take_addition.new.lp c.args.node l c.take_addition.new.run.items c.in-Some.input) (sym c.in_ok-push.ensures.items)
    (taking_next c.args.lp.now c.loop-input.lp c.args.node c.requires.plan c.loop-input.places.items c.loop-input.run.items c.loop-input.below c.loop-input.invariant
    c.take_addition.new.lp c.in_ok-input.ensures.0 c.in_ok-input.ensures.1 c.take_addition.new.run.items c.in-Some.input
    (subst (λ (o : Option Node). TakenOne c.loop-input.lp c.take_addition.new.lp c.loop-input.below c.in_ok-input.ensures.0 c.loop-input.run.items c.take_addition.new.run.items o) c.in-Some.is c.in_ok-input.ensures.2))

pub returns : goal.returns
returns c =
    taking_end c.args.lp.now c.loop-input.lp c.args.node c.requires.plan c.loop-input.places.items c.loop-input.run.items c.loop-input.below c.loop-input.invariant
    c.take_addition.new.lp c.in_ok-input.ensures.0 c.in_ok-input.ensures.1 c.take_addition.new.run.items
    (subst (λ (o : Option Node). TakenOne c.loop-input.lp c.take_addition.new.lp c.loop-input.below c.in_ok-input.ensures.0 c.loop-input.run.items c.take_addition.new.run.items o) (none_if c.in_ok-input.field-0 c.in_default.not-Some) c.in_ok-input.ensures.2)
