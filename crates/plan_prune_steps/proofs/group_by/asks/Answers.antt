use Rattle.std.proofs.Common.{◌≡◌, ◌∙◌, ap, List}
use Rattle.std.proofs.lemmas.Result.{IfOk-at_ok, IfOk-weaker}
use Rattle.plan_core.specs.Names.{with_names}
use Rattle.plan_expr.specs.Exprs.{Named, all_named_at}
use Rattle.plan_expr.specs.Leaves.{Name}
use Rattle.plan_frame.specs.ExprLists.{all_leaves}
use Rattle.plan_pruned.specs.Pruned.{held_names}
use Rattle.plan_prune_parts.specs.Said.{columns_at}
use Rattle.plan_prune_steps.proofs.GroupParts.{grouped-names}
use Rattle.plan_prune_steps.proofs.group_by.asks.Goals as goal

pub returns : goal.returns
returns c =
    let keys : List Named = all_named_at c.args.ex.now c.args.keys.now in
    let aggs : List Named = all_named_at c.args.ex.now c.args.aggs.now in
    IfOk-weaker c.with_added.result _ _
    (λ names is.
    is.0
    ∙ IfOk-at_ok (λ _. c.add_all_names-added.new.names ≡ with_names c.in_ok-names.names (all_leaves keys)) is.1 c.add_all_names-added.ensures
    ∙ ap (λ (l : List Name). with_names l (all_leaves keys)) c.in_ok-names.ensures
    ∙ grouped-names (held_names c.args.asked.now (columns_at c.args.lp.now c.args.ex.now c.args.input)) keys aggs)
    c.with_added.ensures
