use Rattle.plan_meaning.specs.PlanAt.{plan_at}
use Rattle.plan_top.specs.Chains.{in_order, is_clustering, is_pruning, passes}
use Rattle.plan_top.proofs.Chaining.{asked_passes, trailed_as, whole_keeps, whole_reads, whole_refines, whole_shared, whole_trail}
use Rattle.plan_top.proofs.chain.optimize_with.Goals as goal

pub returns-clause-trailed : goal.returns-clause-trailed
returns-clause-trailed g c =
    let given = plan_at c.args.lp.now c.args.ex.now c.args.root in
    let ordered = plan_at c.order_step.new.lp c.args.ex.now c.args.root in
    let first = c.in_ok-keep_step.ensures.kept in
    let last = c.in_ok-keep_step-2.ensures.kept in
    let order = c.in_ok-order_step.ensures in
    let prune = c.in_ok-counts.ensures in
    let count = c.in_ok-count_step.ensures in
    let cluster = c.in_ok-cluster_step.ensures in
    trailed_as c.args.flags _ c.args.root (in_order c.in_ok-order_step.field-0 (is_pruning c.args.flags) c.in_ok-counts.counts (is_clustering c.args.flags)) (passes c.args.flags given) c.args.lp.now c.settle.new.lp c.args.ex.now c.settle.new.ex c.args.trail.now c.keep_step-2.new.trail
    (asked_passes c.args.flags c.in_ok-order_step.field-0 c.in_ok-counts.counts given ordered order.asked prune.counts order.counts)
    (whole_trail c.args.flags _ c.args.root c.in_ok-order_step.field-0 (is_pruning c.args.flags) c.in_ok-counts.counts (is_clustering c.args.flags) c.args.lp.now c.order_step.new.lp c.prune_step.new.lp c.count_step.new.lp c.cluster_step.new.lp c.settle.new.lp c.args.ex.now c.prune_step.new.ex c.settle.new.ex c.in_ok-replaced.replaced first.0 last.0
    c.args.trail.now c.keep_step.new.trail c.order_step.new.trail c.prune_step.new.trail c.count_step.new.trail c.cluster_step.new.trail c.keep_step-2.new.trail
    first.1 first.2
    (order.passed _) order.kept
    (prune.passed _) prune.kept
    (count.passed c.args.flags _) count.kept
    (cluster.passed _) cluster.kept
    (rw c.deref_mut.ensures.value at c.in_ok-replaced.ensures.passed) last.1 last.2)

pub returns-clause-refines : goal.returns-clause-refines
returns-clause-refines g c = whole_refines c.args.flags _ c.args.root c.args.lp.now c.settle.new.lp c.args.ex.now c.settle.new.ex _ c.in_ok-check_plan.ensures.valid (returns-clause-trailed g c).chained

pub returns-clause-reads : goal.returns-clause-reads
returns-clause-reads g c = whole_reads c.args.flags _ c.args.root c.args.lp.now c.settle.new.lp c.args.ex.now c.settle.new.ex c.in_ok-check_plan.ensures.valid (returns-clause-trailed g c).chained

pub returns-clause-keeps : goal.returns-clause-keeps
returns-clause-keeps g c = whole_keeps c.args.flags _ c.args.root c.args.lp.now c.settle.new.lp c.args.ex.now c.settle.new.ex c.in_ok-check_plan.ensures.valid (returns-clause-trailed g c).chained

pub returns-clause-shared : goal.returns-clause-shared
returns-clause-shared g c = whole_shared c.args.flags _ c.args.root c.args.lp.now c.settle.new.lp c.args.ex.now c.settle.new.ex _ (returns-clause-trailed g c).chained
