use Rattle.std.proofs.Common.{List, [], refl, subst}
use Rattle.plan_meaning.specs.PlanAt.{plan_at}
use Rattle.plan_top.specs.declared.trail.Pass.{Pass}
use Rattle.plan_top.specs.Chains.{boxes_of, is_clustering, is_pruning}
use Rattle.plan_top.specs.Trails.{Chained}
use Rattle.plan_top.proofs.Chaining.{asked_passes, whole_chain, whole_keeps, whole_reads, whole_refines, whole_shared}
use Rattle.plan_top.proofs.chain.optimize.Goals as goal

pub returns-clause-chained : goal.returns-clause-chained
returns-clause-chained c =
    let given = plan_at c.args.lp.now c.args.ex.now c.args.root in
    let ordered = plan_at c.order.new.lp c.args.ex.now c.args.root in
    subst (λ (ks : List Pass). Chained c.args.flags (boxes_of [] []) ks c.args.lp.now c.settle.new.lp c.args.ex.now c.settle.new.ex c.args.root)
    (asked_passes c.args.flags c.in_ok-order.field-0 c.in_ok-counts.counts given ordered c.in_ok-order.ensures.asked c.in_ok-counts.ensures.counts c.in_ok-order.ensures.counts)
    (whole_chain c.args.flags (boxes_of [] []) c.args.root c.in_ok-order.field-0 (is_pruning c.args.flags) c.in_ok-counts.counts (is_clustering c.args.flags) c.args.lp.now c.order.new.lp c.prune.new.lp c.count.new.lp c.cluster.new.lp c.settle.new.lp c.args.ex.now c.prune.new.ex c.settle.new.ex c.in_ok-settle.field-0
    (c.in_ok-order.ensures.passed (boxes_of [] [])) (c.in_ok-counts.ensures.passed (boxes_of [] [])) (c.in_ok-count.ensures.passed c.args.flags (boxes_of [] [])) (c.in_ok-cluster.ensures.passed (boxes_of [] [])) c.in_ok-settle.ensures.passed)

pub returns-clause-refines : goal.returns-clause-refines
returns-clause-refines c = whole_refines c.args.flags (boxes_of [] []) c.args.root c.args.lp.now c.settle.new.lp c.args.ex.now c.settle.new.ex _ c.in_ok-check_plan.ensures.valid (returns-clause-chained c)

pub returns-clause-reads : goal.returns-clause-reads
returns-clause-reads c = whole_reads c.args.flags (boxes_of [] []) c.args.root c.args.lp.now c.settle.new.lp c.args.ex.now c.settle.new.ex c.in_ok-check_plan.ensures.valid (returns-clause-chained c)

pub returns-clause-keeps : goal.returns-clause-keeps
returns-clause-keeps c = whole_keeps c.args.flags (boxes_of [] []) c.args.root c.args.lp.now c.settle.new.lp c.args.ex.now c.settle.new.ex c.in_ok-check_plan.ensures.valid (returns-clause-chained c)

pub returns-clause-shared : goal.returns-clause-shared
returns-clause-shared c = whole_shared c.args.flags (boxes_of [] []) c.args.root c.args.lp.now c.settle.new.lp c.args.ex.now c.settle.new.ex _ (returns-clause-chained c) refl
