-- The loop of `list_minterms` by its lemmas.
use Rattle.plan_collapse.proofs.MintermLists.{listed-exprs, listed-place, listing-init, on_top, turn-and, turn-other}
use Rattle.plan_collapse.proofs.minterms.list_minterms.Goals as goal

pub loop-next-init : goal.loop-next-init
loop-next-init c = rw (c.in_ok-push.ensures.pushed, c.new-pending.ensures, c.new-numbers.ensures.items) (listing-init c.args.ex.now c.args.node c.requires)

pub get-requires : goal.get-requires
get-requires c = on_top c.args.ex.now c.args.node c.in-Some.next c.loop-next.numbers.items c.loop-next.pending c.pop.new.self c.in-Some.ensures c.loop-next.invariant

pub loop-next-smaller-in_default-and_operands : goal.loop-next-smaller-in_default-and_operands
loop-next-smaller-in_default-and_operands c = (turn-other c.args.ex.now c.args.node c.in-Some.next c.loop-next.numbers.items c.loop-next.pending c.pop.new.self c.get.result.now c.in-Some.ensures c.loop-next.invariant c.get.ensures.entry c.push-in_default-and_operands.new.self.items c.in_default-and_operands.ensures.none c.in_ok-push-2.ensures.items).falls

pub loop-next-preserved-in_default-and_operands : goal.loop-next-preserved-in_default-and_operands
loop-next-preserved-in_default-and_operands c = (turn-other c.args.ex.now c.args.node c.in-Some.next c.loop-next.numbers.items c.loop-next.pending c.pop.new.self c.get.result.now c.in-Some.ensures c.loop-next.invariant c.get.ensures.entry c.push-in_default-and_operands.new.self.items c.in_default-and_operands.ensures.none c.in_ok-push-2.ensures.items).next

pub loop-next-smaller : goal.loop-next-smaller
loop-next-smaller c = (turn-and c.args.ex.now c.args.node c.in-Some.next c.loop-next.numbers.items c.loop-next.pending c.pop.new.self c.get.result.now c.in-Some.ensures c.loop-next.invariant c.get.ensures.entry c.in-Some-and_operands.operands.0 c.in-Some-and_operands.operands.1 c.stack_operands.new.pending c.in-Some-and_operands.ensures.some c.in_ok-stack_operands.ensures).falls

pub loop-next-preserved : goal.loop-next-preserved
loop-next-preserved c = (turn-and c.args.ex.now c.args.node c.in-Some.next c.loop-next.numbers.items c.loop-next.pending c.pop.new.self c.get.result.now c.in-Some.ensures c.loop-next.invariant c.get.ensures.entry c.in-Some-and_operands.operands.0 c.in-Some-and_operands.operands.1 c.stack_operands.new.pending c.in-Some-and_operands.ensures.some c.in_ok-stack_operands.ensures).next

pub returns-clause-exprs : goal.returns-clause-exprs
returns-clause-exprs c = listed-exprs c.args.ex.now c.args.node c.loop-next.numbers.items c.requires (rw c.in_default.ensures.0 at c.loop-next.invariant)

pub returns-clause-place : goal.returns-clause-place
returns-clause-place c = listed-place c.args.ex.now c.args.node c.loop-next.numbers.items (rw c.in_default.ensures.0 at c.loop-next.invariant)
