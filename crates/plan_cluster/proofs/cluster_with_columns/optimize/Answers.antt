use Rattle.std.proofs.Common.{◌≡◌, ◌∙◌, ◌++◌, ◌+◌, ◌≤◌, List, [], ◌∷◌, arith, sym, ap, subst}
use Rattle.plan_core.specs.declared.arena.Node.{Node}
use Rattle.plan_tree.specs.Read.{trees_at}
use Rattle.plan_tree.proofs.ReadLemmas.{trees_at-stands}
use Rattle.plan_ir.specs.Parts.{inputs_of, plan_shape}
use Rattle.plan_ir.specs.Plans.{Plan}
use Rattle.plan_meaning.specs.Caches.{AreShared}
use Rattle.plan_meaning.specs.PlanAt.{plan_at}
use Rattle.plan_meaning.specs.Relating.{Refines}
use Rattle.plan_meaning.specs.Scans.{Keeps, nodes}
use Rattle.plan_collapse_laws.specs.Clusters.{IsClustered}
use Rattle.plan_collapse_laws.specs.Counts.{placing}
use Rattle.plan_collapse_laws.proofs.Kept.{clustered_few, clustered_keeps, clustered_shared}
use Rattle.plan_collapse_laws.proofs.Refining.{clustered_refines}
use Rattle.plan_collapse_laws.proofs.Shapes.{clustered_idle, clustered_is}
use Rattle.plan_cluster.proofs.Ends.{any_trees, in_place, plan_clustered, sound_at, still_plan}
use Rattle.plan_cluster.proofs.Turns.{Going, asked, going_end, going_init, left, low_new, turn_falls, turned}
use Rattle.plan_cluster.proofs.cluster_with_columns.optimize.Goals as goal

pub loop-node-init : goal.loop-node-init
loop-node-init c =
    let t = trees_at plan_shape c.args.lp.now (c.args.root ∷ []) in
    subst (λ (l : List Node). Going c.args.lp.now c.args.ex.now c.args.root t c.args.lp.now l) (sym (c.in_ok-push.ensures.pushed ∙ ap (λ (l : List Node). l ++ c.args.root ∷ []) c.new-stack.ensures))
    (going_init c.args.lp.now c.args.ex.now c.args.root t (trees_at-stands plan_shape c.args.lp.now (c.args.root ∷ []) c.requires.plan.nodes c.requires.plan.stands.nodes) (sound_at c.args.lp.now c.args.ex.now c.args.root c.requires.plan c.requires.valid))

pub settle-requires : goal.settle-requires
settle-requires c =
    let t = trees_at plan_shape c.args.lp.now (c.args.root ∷ []) in
    asked c.args.lp.now c.args.ex.now c.args.root t c.loop-node.lp c.pop.new.self c.in-Some.node (subst (λ (l : List Node). Going c.args.lp.now c.args.ex.now c.args.root t c.loop-node.lp l) c.in-Some.ensures c.loop-node.invariant)

pub get-requires : goal.get-requires
get-requires c =
    let t = trees_at plan_shape c.args.lp.now (c.args.root ∷ []) in
    low_new c.args.lp.now c.args.ex.now c.args.root t c.loop-node.lp c.pop.new.self c.in-Some.node (subst (λ (l : List Node). Going c.args.lp.now c.args.ex.now c.args.root t c.loop-node.lp l) c.in-Some.ensures c.loop-node.invariant)
    c.settle.new.lp c.in_ok-below.below c.in_ok-below.ensures

pub loop-node-smaller : goal.loop-node-smaller
loop-node-smaller c =
    let t = trees_at plan_shape c.args.lp.now (c.args.root ∷ []) in
    let falls = turn_falls c.args.lp.now c.args.ex.now c.args.root t c.loop-node.lp c.pop.new.self c.in-Some.node (subst (λ (l : List Node). Going c.args.lp.now c.args.ex.now c.args.root t c.loop-node.lp l) c.in-Some.ensures c.loop-node.invariant)
    c.settle.new.lp c.in_ok-below.below c.in_ok-below.ensures c.get.result.now c.get.ensures.entry in
    let at : left c.settle.new.lp c.copy_inputs.new.out ≡ left c.settle.new.lp (c.pop.new.self ++ inputs_of c.get.result.now) = ap (left c.settle.new.lp) c.in_ok-copy_inputs.ensures.appended in
    let from : left c.loop-node.lp c.loop-node.stack ≡ left c.loop-node.lp (c.pop.new.self ++ c.in-Some.node ∷ []) = ap (left c.loop-node.lp) c.in-Some.ensures in
    omega (arith, falls, at, from)

pub loop-node-preserved : goal.loop-node-preserved
loop-node-preserved c =
    let t = trees_at plan_shape c.args.lp.now (c.args.root ∷ []) in
    subst (λ (l : List Node). Going c.args.lp.now c.args.ex.now c.args.root t c.settle.new.lp l) (sym c.in_ok-copy_inputs.ensures.appended)
    (turned c.args.lp.now c.args.ex.now c.args.root t c.loop-node.lp c.pop.new.self c.in-Some.node (subst (λ (l : List Node). Going c.args.lp.now c.args.ex.now c.args.root t c.loop-node.lp l) c.in-Some.ensures c.loop-node.invariant)
    c.settle.new.lp c.in_ok-below.below c.in_ok-below.ensures c.get.result.now c.get.ensures.entry)

-- once the stack is empty

pub returns-clause-clustered : goal.returns-clause-clustered
returns-clause-clustered c =
    plan_clustered c.args.lp.now c.loop-node.lp c.args.ex.now c.args.root c.requires.plan.nodes c.requires.plan.stands.nodes
    (any_trees c.args.lp.now c.loop-node.lp c.args.ex.now c.args.root c.requires.plan.nodes c.requires.plan.stands.nodes (going_end c.args.lp.now c.args.ex.now c.args.root (trees_at plan_shape c.args.lp.now (c.args.root ∷ [])) c.loop-node.lp c.loop-node.stack c.in_default.ensures.0 c.loop-node.invariant))

pub returns-clause-refines : goal.returns-clause-refines
returns-clause-refines c =
    let p : Plan = plan_at c.args.lp.now c.args.ex.now c.args.root in
    subst (λ (q : Plan). Refines q p) (sym (returns-clause-clustered c)) (clustered_refines p c.requires.valid)

pub returns-clause-keeps : goal.returns-clause-keeps
returns-clause-keeps c =
    let p : Plan = plan_at c.args.lp.now c.args.ex.now c.args.root in
    subst (λ (q : Plan). Keeps q p) (sym (returns-clause-clustered c)) (clustered_keeps p)

pub returns-clause-at_rest : goal.returns-clause-at_rest
returns-clause-at_rest c = subst IsClustered (sym (returns-clause-clustered c)) (clustered_is (plan_at c.args.lp.now c.args.ex.now c.args.root) c.requires.valid)

pub returns-clause-stays : goal.returns-clause-stays
returns-clause-stays c = λ h. returns-clause-clustered c ∙ clustered_idle (plan_at c.args.lp.now c.args.ex.now c.args.root) h

pub returns-clause-few : goal.returns-clause-few
returns-clause-few c =
    let p : Plan = plan_at c.args.lp.now c.args.ex.now c.args.root in
    subst (λ (q : Plan). nodes q + placing q ≤ nodes p + placing p) (sym (returns-clause-clustered c)) (clustered_few p)

pub returns-clause-shared : goal.returns-clause-shared
returns-clause-shared c = λ s. subst AreShared (sym (returns-clause-clustered c)) (clustered_shared (plan_at c.args.lp.now c.args.ex.now c.args.root) s)

pub returns-clause-in_place : goal.returns-clause-in_place
returns-clause-in_place c = λ t e h. in_place c.args.lp.now c.loop-node.lp c.args.ex.now c.args.root t e h (any_trees c.args.lp.now c.loop-node.lp c.args.ex.now c.args.root t h.nodes (going_end c.args.lp.now c.args.ex.now c.args.root (trees_at plan_shape c.args.lp.now (c.args.root ∷ [])) c.loop-node.lp c.loop-node.stack c.in_default.ensures.0 c.loop-node.invariant))

pub returns-clause-is_plan : goal.returns-clause-is_plan
returns-clause-is_plan c =
    still_plan c.args.lp.now c.loop-node.lp c.args.ex.now c.args.root c.requires.plan
    (any_trees c.args.lp.now c.loop-node.lp c.args.ex.now c.args.root c.requires.plan.nodes c.requires.plan.stands.nodes (going_end c.args.lp.now c.args.ex.now c.args.root (trees_at plan_shape c.args.lp.now (c.args.root ∷ [])) c.loop-node.lp c.loop-node.stack c.in_default.ensures.0 c.loop-node.invariant))
