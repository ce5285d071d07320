-- The loop of `is_deeper` by the lemmas of `levels_of`.
use Rattle.std.proofs.Common.{max, ap, arith}
use Rattle.plan_tree.proofs.LevelLemmas.{Deep-init, Deep-end, turn, on_top, levels-fit}
use Rattle.plan_tree.proofs.ReadLemmas.{trees_at-is}
use Rattle.plan_tree.specs.Rose.{levels}
use Rattle.plan_tree.specs.Stands.{shape}
use Rattle.plan_tree.proofs.deeper.is_deeper.Goals as goal

pub loop-step-init : goal.loop-step-init
loop-step-init g c = (0, omega arith, rw (c.in_ok-stack_numbers.ensures, c.new-pending.ensures) (Deep-init (shape g.T.Entry.inputs g.T.Entry.bad) c.args.arena.now c.args.roots.now c.requires), c.new-inputs.ensures)

pub returns-then-step-limit : goal.returns-then-step-limit
returns-then-step-limit g c = λ t h.
    let top = on_top (shape g.T.Entry.inputs g.T.Entry.bad) c.args.arena.now c.args.roots.now c.loop-step.invariant.0 c.in-Some.step c.loop-step.pending c.pop.new.self c.in-Some.ensures c.loop-step.invariant.2 in
    let same = ap levels (trees_at-is (shape g.T.Entry.inputs g.T.Entry.bad) c.args.arena.now c.args.roots.now t h) in
    let over = c.if-step-limit.true in
    grind (arith, top.1, same, over)

pub get-requires : goal.get-requires
get-requires g c = (on_top (shape g.T.Entry.inputs g.T.Entry.bad) c.args.arena.now c.args.roots.now c.loop-step.invariant.0 c.in-Some.step c.loop-step.pending c.pop.new.self c.in-Some.ensures c.loop-step.invariant.2).0

pub overflow_add-step : goal.overflow_add-step
overflow_add-step g c =
    let low = on_top (shape g.T.Entry.inputs g.T.Entry.bad) c.args.arena.now c.args.roots.now c.loop-step.invariant.0 c.in-Some.step c.loop-step.pending c.pop.new.self c.in-Some.ensures c.loop-step.invariant.2 in
    let fits = levels-fit (shape g.T.Entry.inputs g.T.Entry.bad) c.args.arena.now c.args.roots.now c.requires in
    omega (arith, c.get.ensures.small, low.1, fits)

pub loop-step-smaller : goal.loop-step-smaller
loop-step-smaller g c = (turn (shape g.T.Entry.inputs g.T.Entry.bad) c.args.arena.now c.args.roots.now c.loop-step.invariant.0 c.in-Some.step c.loop-step.pending c.pop.new.self c.stack_inputs.new.pending c.get.result.now c.in-Some.ensures c.loop-step.invariant.2 c.get.ensures.entry c.in_ok-stack_inputs.ensures.stacked).falls

pub loop-step-preserved : goal.loop-step-preserved
loop-step-preserved g c = (
  max c.loop-step.invariant.0 c.in-Some.step.mark,
  omega (arith, c.loop-step.invariant.1, c.if-step-limit.false),
  (turn (shape g.T.Entry.inputs g.T.Entry.bad) c.args.arena.now c.args.roots.now c.loop-step.invariant.0 c.in-Some.step c.loop-step.pending c.pop.new.self c.stack_inputs.new.pending c.get.result.now c.in-Some.ensures c.loop-step.invariant.2 c.get.ensures.entry c.in_ok-stack_inputs.ensures.stacked).next,
  c.in_ok-stack_inputs.ensures.emptied,
)

pub returns : goal.returns
returns g c = λ t h.
    let all = Deep-end (shape g.T.Entry.inputs g.T.Entry.bad) c.args.arena.now c.args.roots.now c.loop-step.invariant.0 (rw c.in_default.ensures.0 at c.loop-step.invariant.2) in
    let same = ap levels (trees_at-is (shape g.T.Entry.inputs g.T.Entry.bad) c.args.arena.now c.args.roots.now t h) in
    grind (arith, all, same, c.loop-step.invariant.1)
