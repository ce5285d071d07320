-- The loop by its turns, and what it comes to.
use Rattle.std.proofs.Common.{◌≡◌, ◌∙◌, ◌<◌, ◌≤◌, [], ◌∷◌, arith, length, length-set, refl, sym, ap, subst, true}
use Rattle.plan_tree.specs.Read.{trees_at}
use Rattle.plan_tree.specs.Rose.{size}
use Rattle.plan_tree.specs.Stands.{Trees}
use Rattle.plan_tree.proofs.Numbers.{size-le}
use Rattle.plan_tree.proofs.ReadLemmas.{trees_at-stands, trees_at-is}
use Rattle.plan_ir.specs.declared.ir.IR.{IR}
use Rattle.plan_ir.specs.Parts.{plan_shape}
use Rattle.plan_ir.specs.Plans.{Plan}
use Rattle.plan_meaning.specs.Caches.{AreShared}
use Rattle.plan_meaning.specs.Counting.{meets_count}
use Rattle.plan_meaning.specs.PlanAt.{plan_at}
use Rattle.plan_meaning.specs.Relating.{Refines}
use Rattle.plan_meaning.specs.Scans.{Keeps}
use Rattle.plan_order_laws.proofs.OrderedRefines.{ordered_refines}
use Rattle.plan_order_laws.proofs.OrderScans.{counts_ordered, ordered_keeps}
use Rattle.plan_order_laws.proofs.SharedOrder.{shared_ordered}
use Rattle.plan_order.specs.Undemanded.{Reordered}
use Rattle.plan_order.proofs.Demanded.{ordered_reordered}
use Rattle.plan_order.proofs.CodeTurns.{told_turn, dropped_turn, input_of}
use Rattle.plan_order.proofs.NodeExprs.{node_exprs}
use Rattle.plan_order.proofs.EndLemmas.{in_place, known_all, plan_ordered, still_plan, any_trees}
use Rattle.plan_order.proofs.TurnLemmas.{Known, going_init_at, going_end_at, on_top_at, reads_at}
use Rattle.plan_order.proofs.flags.set_order_flags.Goals as goal

pub loop-node-init : goal.loop-node-init
loop-node-init c =
    let stands = trees_at-stands plan_shape c.args.lp.now (c.args.root ∷ []) c.requires.nodes c.requires.stands.nodes in
    let known = known_all c.args.ex.now c.requires.nodes c.requires.exprs c.requires.stands.exprs in (
      going_init_at c.args.lp.now c.args.ex.now c.args.root (trees_at plan_shape c.args.lp.now (c.args.root ∷ [])) c.push_reserved.new.self.items (rw (c.push_reserved.ensures.items, c.in_ok-reserve.ensures.items, c.clear.ensures.items) refl) stands
          (subst (λ (x : Trees IR). Known c.args.ex.now x) (sym (trees_at-is plan_shape c.args.lp.now (c.args.root ∷ []) c.requires.nodes c.requires.stands.nodes)) known),
      omega (arith, c.push_reserved.ensures.capacity, c.in_ok-reserve.ensures.ok, c.len.ensures.value),
      refl,
    )

pub get-requires : goal.get-requires
get-requires c = on_top_at c.pop.new.self.items c.in-Some.node c.in-Some.ensures.items c.loop-node.invariant.0

-- a sort that is left out

pub take-below-requires : goal.take-below-requires
take-below-requires c =
    let r = reads_at c.pop.new.self.items c.in-Some.node c.in-Some.ensures.items c.loop-node.invariant.0 c.get.ensures.entry in
    r.inputs c.in-Some-idle_input.input (input_of c.args.ex.now c.loop-node.ordered c.get.result.now c.in-Some-idle_input.input c.idle_input.ensures c.in-Some-idle_input.is)

pub put-requires : goal.put-requires
put-requires c =
    let low : c.in-Some.node.0 < length c.loop-node.lp = on_top_at c.pop.new.self.items c.in-Some.node c.in-Some.ensures.items c.loop-node.invariant.0 in
    let same = ap length c.take-below.ensures.after.2 in
    omega (arith, low, same, length-set c.loop-node.lp c.in-Some-idle_input.input.0 c.take-below.ensures.after.0)

pub loop-node-smaller-in-Some-idle_input : goal.loop-node-smaller-in-Some-idle_input
loop-node-smaller-in-Some-idle_input c =
    let turn = dropped_turn c.pop.new.self.items c.in-Some.node c.in-Some-idle_input.input c.take-below.ensures.after.0
    c.in-Some.ensures.items c.loop-node.invariant.0 c.get.ensures.entry c.idle_input.ensures c.in-Some-idle_input.is c.take-below.ensures.given c.take-below.ensures.after.2 c.put.ensures c.push_reserved-in-Some-idle_input.ensures.items in
    turn.falls

pub loop-node-preserved-in-Some-idle_input : goal.loop-node-preserved-in-Some-idle_input
loop-node-preserved-in-Some-idle_input c =
    let turn = dropped_turn c.pop.new.self.items c.in-Some.node c.in-Some-idle_input.input c.take-below.ensures.after.0
    c.in-Some.ensures.items c.loop-node.invariant.0 c.get.ensures.entry c.idle_input.ensures c.in-Some-idle_input.is c.take-below.ensures.given c.take-below.ensures.after.2 c.put.ensures c.push_reserved-in-Some-idle_input.ensures.items in
    let mid = ap length c.take-below.ensures.after.2 in
    let same = ap length c.put.ensures in (
      turn.going,
      omega (arith, c.push_reserved-in-Some-idle_input.ensures.capacity, c.in-Some.ensures.capacity, c.loop-node.invariant.1),
      omega (arith, mid, same, length-set c.loop-node.lp c.in-Some-idle_input.input.0 c.take-below.ensures.after.0, length-set c.take-below.new.self c.in-Some.node.0 c.take-below.result, c.loop-node.invariant.2),
    )

-- a node that stays

pub get-requires-in-Some : goal.get-requires-in-Some
get-requires-in-Some c = on_top_at c.pop.new.self.items c.in-Some.node c.in-Some.ensures.items c.loop-node.invariant.0

pub top_demand-demanded-requires : goal.top_demand-demanded-requires
top_demand-demanded-requires c =
    let r = reads_at c.pop.new.self.items c.in-Some.node c.in-Some.ensures.items c.loop-node.invariant.0 c.get-in-Some.ensures.entry in
    node_exprs c.args.ex.now c.get-in-Some.result.now r.exprs

pub get-requires-in-Some-2 : goal.get-requires-in-Some-2
get-requires-in-Some-2 c = on_top_at c.pop.new.self.items c.in-Some.node c.in-Some.ensures.items c.loop-node.invariant.0

pub stack_inputs-requires : goal.stack_inputs-requires
stack_inputs-requires c =
    let r = reads_at c.pop.new.self.items c.in-Some.node c.in-Some.ensures.items c.loop-node.invariant.0 c.get-in-Some-2.ensures.entry in
    let low : size (trees_at plan_shape c.args.lp.now (c.args.root ∷ [])) ≤ length c.args.lp.now = size-le plan_shape c.args.lp.now (c.args.root ∷ []) (trees_at plan_shape c.args.lp.now (c.args.root ∷ [])) (trees_at-stands plan_shape c.args.lp.now (c.args.root ∷ []) c.requires.nodes c.requires.stands.nodes) in
    omega (arith, r.room, low, c.loop-node.invariant.1, c.in-Some.ensures.capacity, c.pop.new.self.ok.0)

pub get_mut-requires : goal.get_mut-requires
get_mut-requires c = on_top_at c.pop.new.self.items c.in-Some.node c.in-Some.ensures.items c.loop-node.invariant.0

pub loop-node-smaller : goal.loop-node-smaller
loop-node-smaller c =
    let turn = told_turn c.pop.new.self.items c.in-Some.node
    c.in-Some.ensures.items c.loop-node.invariant.0 c.get.ensures.entry c.idle_input.ensures c.in_default-idle_input.not-Some c.get-in-Some.ensures.entry c.top_demand-demanded.ensures c.get-in-Some-2.ensures.entry c.stack_inputs.ensures.items c.get_mut.ensures.value c.tell.ensures in
    turn.falls

pub loop-node-preserved : goal.loop-node-preserved
loop-node-preserved c =
    let turn = told_turn c.pop.new.self.items c.in-Some.node
    c.in-Some.ensures.items c.loop-node.invariant.0 c.get.ensures.entry c.idle_input.ensures c.in_default-idle_input.not-Some c.get-in-Some.ensures.entry c.top_demand-demanded.ensures c.get-in-Some-2.ensures.entry c.stack_inputs.ensures.items c.get_mut.ensures.value c.tell.ensures in (
      turn.going,
      omega (arith, c.stack_inputs.ensures.capacity, c.in-Some.ensures.capacity, c.loop-node.invariant.1),
      omega (arith, length-set c.loop-node.lp c.in-Some.node.0 c.tell.new.entry, c.loop-node.invariant.2),
    )

-- once the stack is empty

pub returns-clause-ordered : goal.returns-clause-ordered
returns-clause-ordered c =
    let none : length c.loop-node.scratch.items ≡ 0 = omega (arith, c.in_default.ensures.cases.0, c.loop-node.scratch.ok.0) in
    let ended = going_end_at c.loop-node.scratch.items none c.loop-node.invariant.0 in
    plan_ordered c.args.lp.now c.loop-node.lp c.args.ex.now c.args.root c.requires.nodes c.requires.stands.nodes (any_trees c.args.lp.now c.loop-node.lp c.args.ex.now c.args.root c.requires.nodes c.requires.stands.nodes ended)

pub returns-clause-refines : goal.returns-clause-refines
returns-clause-refines c = λ v.
    let p : Plan = plan_at c.args.lp.now c.args.ex.now c.args.root in
    subst (λ (q : Plan). Refines q p) (sym (returns-clause-ordered c)) (ordered_refines p v)

pub returns-clause-reordered : goal.returns-clause-reordered
returns-clause-reordered c = λ v.
    let p : Plan = plan_at c.args.lp.now c.args.ex.now c.args.root in
    subst (λ (q : Plan). Reordered true q p) (sym (returns-clause-ordered c)) (ordered_reordered true p v)

pub returns-clause-keeps : goal.returns-clause-keeps
returns-clause-keeps c = λ v.
    let p : Plan = plan_at c.args.lp.now c.args.ex.now c.args.root in
    subst (λ (q : Plan). Keeps q p) (sym (returns-clause-ordered c)) (ordered_keeps true p v)

pub returns-clause-counts : goal.returns-clause-counts
returns-clause-counts c = λ v. ap meets_count (returns-clause-ordered c) ∙ counts_ordered true (plan_at c.args.lp.now c.args.ex.now c.args.root) v

pub returns-clause-shared : goal.returns-clause-shared
returns-clause-shared c = λ s. subst AreShared (sym (returns-clause-ordered c)) (shared_ordered true (plan_at c.args.lp.now c.args.ex.now c.args.root) s)

pub returns-clause-in_place : goal.returns-clause-in_place
returns-clause-in_place c = λ t e h.
    let none : length c.loop-node.scratch.items ≡ 0 = omega (arith, c.in_default.ensures.cases.0, c.loop-node.scratch.ok.0) in
    let ended = going_end_at c.loop-node.scratch.items none c.loop-node.invariant.0 in
    in_place c.args.lp.now c.loop-node.lp c.args.ex.now c.args.root t e h (any_trees c.args.lp.now c.loop-node.lp c.args.ex.now c.args.root t h.nodes ended)

pub returns-clause-is_plan : goal.returns-clause-is_plan
returns-clause-is_plan c =
    let none : length c.loop-node.scratch.items ≡ 0 = omega (arith, c.in_default.ensures.cases.0, c.loop-node.scratch.ok.0) in
    let ended = going_end_at c.loop-node.scratch.items none c.loop-node.invariant.0 in
    still_plan c.args.lp.now c.loop-node.lp c.args.ex.now c.args.root c.requires (any_trees c.args.lp.now c.loop-node.lp c.args.ex.now c.args.root c.requires.nodes c.requires.stands.nodes ended)
