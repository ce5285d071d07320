use Rattle.std.proofs.Common.{reverse}
use Rattle.plan_cluster.proofs.LookLemmas.{left-once, left-stands}
use Rattle.plan_cluster.proofs.RestLemmas.{look-begins, look-moved, look-same}
use Rattle.plan_cluster.proofs.look.look.Goals as goal

pub loop-alloc-init : goal.loop-alloc-init
loop-alloc-init c = look-begins c.args.ex.now c.args.run.now.items c.new-done.result.items c.reverse.new.self.items c.new-done.ensures.items c.reverse.ensures.items c.requires.once

pub step-requires-clause-stand : goal.step-requires-clause-stand
step-requires-clause-stand c = left-stands c.args.ex.now c.args.run.now.items c.loop-alloc.done.items (reverse c.loop-alloc.run.items) c.loop-alloc.changed c.loop-alloc.invariant c.requires.stand

pub step-requires-clause-once : goal.step-requires-clause-once
step-requires-clause-once c = left-once c.args.ex.now c.args.run.now.items c.loop-alloc.done.items (reverse c.loop-alloc.run.items) c.loop-alloc.changed c.loop-alloc.invariant

pub loop-alloc-preserved-then-branch : goal.loop-alloc-preserved-then-branch
loop-alloc-preserved-then-branch c =
    look-moved c.args.ex.now c.args.run.now.items c.step.new.done.items (reverse c.step.new.todo.items) c.loop-alloc.changed c.in_ok-step.field-0 c.if-branch.true
    (c.in_ok-step.ensures.goes_on c.args.run.now.items c.loop-alloc.changed c.loop-alloc.invariant)

pub loop-alloc-preserved : goal.loop-alloc-preserved
loop-alloc-preserved c =
    look-same c.args.ex.now c.args.run.now.items c.step.new.done.items (reverse c.step.new.todo.items) c.loop-alloc.changed c.in_ok-step.field-0 c.if-branch.false
    (c.in_ok-step.ensures.goes_on c.args.run.now.items c.loop-alloc.changed c.loop-alloc.invariant)
