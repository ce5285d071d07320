-- A turn lists the last pending number, and puts its inputs in its place.
use Rattle.std.proofs.Common.{◌≡◌, ◌∙◌, ◌++◌, ◌∷◌, [], List, map, ap, sym, subst, Bor}
use Rattle.std.proofs.lemmas.List.{map-append}
use Rattle.plan_core.specs.declared.arena.Node.{Node}
use Rattle.plan_ir.specs.declared.ir.IR.{IR}
use Rattle.plan_ir.proofs.WalkLemmas.{Goes, goes-init, on_top, turn}
use Rattle.plan_ir.proofs.iterator.add_reached.Goals as goal

pub loop-node-init : goal.loop-node-init
loop-node-init c = rw (c.requires.nodes, c.requires.pending) (goes-init c.args.lp.now c.args.root c.requires.stands)

pub get-entry-requires : goal.get-entry-requires
get-entry-requires c = on_top c.args.lp.now c.args.root _ c.pop.new.self c.in-Some.node c.loop-node.pending c.in-Some.ensures c.loop-node.invariant

pub loop-node-smaller : goal.loop-node-smaller
loop-node-smaller c = (turn c.args.lp.now c.args.root _ c.pop.new.self c.in-Some.node c.loop-node.pending c.copy_inputs.new.out c.get-entry.result.now c.in-Some.ensures c.loop-node.invariant c.get-entry.ensures.entry c.in_ok-copy_inputs.ensures.appended).falls

pub loop-node-preserved : goal.loop-node-preserved
loop-node-preserved c =
    let more : map (λ (q : Node × Bor IR). (q.0, q.1.now)) c.push.new.self.items ≡ map (λ (q : Node × Bor IR). (q.0, q.1.now)) c.loop-node.nodes.items ++ (c.in-Some.node, c.get-entry.result.now) ∷ [] =
    ap (map (λ (q : Node × Bor IR). (q.0, q.1.now))) c.in_ok-push.ensures.items ∙ map-append (λ (q : Node × Bor IR). (q.0, q.1.now)) c.loop-node.nodes.items ((c.in-Some.node, c.get-entry.result) ∷ []) in
    subst (λ (l : List (Node × IR)). Goes c.args.lp.now c.args.root l c.copy_inputs.new.out) (sym more)
    (turn c.args.lp.now c.args.root _ c.pop.new.self c.in-Some.node c.loop-node.pending c.copy_inputs.new.out c.get-entry.result.now c.in-Some.ensures c.loop-node.invariant c.get-entry.ensures.entry c.in_ok-copy_inputs.ensures.appended).next
