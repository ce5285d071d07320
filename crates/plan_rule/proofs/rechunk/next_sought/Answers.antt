use Rattle.std.proofs.Common.{◌∙◌, sym}
use Rattle.plan_rule.proofs.Seeking.{found_here, none_left, onward, seeking, top_inside}
use Rattle.plan_rule.proofs.rechunk.next_sought.Goals as goal

pub loop-node-init : goal.loop-node-init
loop-node-init c = seeking c.args.lp.now c.args.pending.now c.requires

pub get-entry-requires : goal.get-entry-requires
get-entry-requires c = top_inside c.args.lp.now c.args.pending.now c.loop-node.pending c.pop.new.self c.in-Some.node c.loop-node.invariant c.in-Some.ensures

pub returns-then-is_sought : goal.returns-then-is_sought
returns-then-is_sought c = found_here c.args.lp.now c.args.pending.now c.loop-node.pending c.pop.new.self c.in-Some.node c.get-entry.result.now c.loop-node.invariant c.in-Some.ensures c.get-entry.ensures.entry (sym c.is_sought.ensures ∙ c.if-is_sought.true)

pub loop-node-smaller : goal.loop-node-smaller
loop-node-smaller c = (onward c.args.lp.now c.args.pending.now c.loop-node.pending c.pop.new.self c.copy_inputs.new.out c.in-Some.node c.get-entry.result.now c.loop-node.invariant c.in-Some.ensures c.get-entry.ensures.entry (sym c.is_sought.ensures ∙ c.if-is_sought.false) c.in_ok-copy_inputs.ensures.appended).falls

pub loop-node-preserved : goal.loop-node-preserved
loop-node-preserved c = (onward c.args.lp.now c.args.pending.now c.loop-node.pending c.pop.new.self c.copy_inputs.new.out c.in-Some.node c.get-entry.result.now c.loop-node.invariant c.in-Some.ensures c.get-entry.ensures.entry (sym c.is_sought.ensures ∙ c.if-is_sought.false) c.in_ok-copy_inputs.ensures.appended).next

pub returns : goal.returns
returns c = none_left c.args.lp.now c.args.pending.now c.loop-node.pending c.loop-node.invariant c.in_default.ensures.0
