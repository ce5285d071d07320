-- The loop of `walk` by its lemmas, and what a walk says of trees.
use Rattle.std.proofs.Common.{None, Some, arith, length-append, [], ◌∷◌}
use Rattle.plan_tree.proofs.WalkLemmas.{Walking-init, Walking-end, Walking-fault, Walking-next, met-falls}
use Rattle.plan_tree.proofs.WalkTrees.{walked-stands, walked-in_order}
use Rattle.plan_tree.specs.Stands.{shape}
use Rattle.plan_tree.proofs.walking.walk.Goals as goal

pub loop-step-init : goal.loop-step-init
loop-step-init g c = (rw (c.in_ok-stack_steps.ensures, c.new-pending.ensures, c.new-listed.ensures) (Walking-init (shape g.T.Entry.inputs g.T.Entry.bad) c.args.arena.now c.args.roots.now c.new-met.result.keys c.new-met.ensures.empty), c.new-inputs.ensures)

pub returns-in_default-2-clause-walked : goal.returns-in_default-2-clause-walked
returns-in_default-2-clause-walked g c =
    Walking-fault (shape g.T.Entry.inputs g.T.Entry.bad) c.args.arena.now c.args.roots.now c.loop-step.met.keys c.loop-step.listed c.loop-step.pending c.pop.new.self c.in-Some.step c.loop-step.invariant.0 c.in-Some.ensures (rw c.in_default-2.is at c.in_ok-entry.ensures.found)

pub returns-in_default-2-clause-stands : goal.returns-in_default-2-clause-stands
returns-in_default-2-clause-stands g c = walked-stands (shape g.T.Entry.inputs g.T.Entry.bad) c.args.arena.now c.args.roots.now (record { listed = c.loop-step.listed; fault = Some c.in-Some.step }) (returns-in_default-2-clause-walked g c)

pub returns-in_default-2-clause-in_order : goal.returns-in_default-2-clause-in_order
returns-in_default-2-clause-in_order g c = walked-in_order (shape g.T.Entry.inputs g.T.Entry.bad) c.args.arena.now c.args.roots.now (record { listed = c.loop-step.listed; fault = Some c.in-Some.step }) (returns-in_default-2-clause-walked g c)

pub loop-step-smaller : goal.loop-step-smaller
loop-step-smaller g c =
    let falls = met-falls (shape g.T.Entry.inputs g.T.Entry.bad) c.args.arena.now c.args.roots.now c.loop-step.met.keys c.loop-step.listed c.loop-step.pending c.in-Some.step.node c.in-Some-2.entry.now c.loop-step.invariant.0 (rw c.in-Some-2.is at c.in_ok-entry.ensures.found) in
    rw c.in_ok-push.ensures.pushed (omega (arith, falls, length-append c.loop-step.listed (c.in-Some.step.node ∷ [])))

pub loop-step-preserved : goal.loop-step-preserved
loop-step-preserved g c =
    (rw (c.in_ok-push.ensures.pushed, c.in_ok-stack_inputs.ensures.stacked) (Walking-next (shape g.T.Entry.inputs g.T.Entry.bad) c.args.arena.now c.args.roots.now c.loop-step.met.keys c.new_entry.new.met.keys c.loop-step.listed c.loop-step.pending c.pop.new.self c.in-Some.step c.in-Some-2.entry.now c.loop-step.invariant.0 c.in-Some.ensures (rw c.in-Some-2.is at c.in_ok-entry.ensures.found) ((rw c.in-Some-2.is at c.in_ok-entry.ensures.met).0)), c.in_ok-stack_inputs.ensures.emptied)

pub returns-clause-walked : goal.returns-clause-walked
returns-clause-walked g c = Walking-end (shape g.T.Entry.inputs g.T.Entry.bad) c.args.arena.now c.args.roots.now c.loop-step.met.keys c.loop-step.listed (rw c.in_default.ensures.0 at c.loop-step.invariant.0)

pub returns-clause-stands : goal.returns-clause-stands
returns-clause-stands g c = walked-stands (shape g.T.Entry.inputs g.T.Entry.bad) c.args.arena.now c.args.roots.now (record { listed = c.loop-step.listed; fault = None }) (returns-clause-walked g c)

pub returns-clause-in_order : goal.returns-clause-in_order
returns-clause-in_order g c = walked-in_order (shape g.T.Entry.inputs g.T.Entry.bad) c.args.arena.now c.args.roots.now (record { listed = c.loop-step.listed; fault = None }) (returns-clause-walked g c)
