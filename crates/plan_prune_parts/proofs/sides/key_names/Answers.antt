use Rattle.std.proofs.Common.{◌∙◌, ap, List, [], take}
use Rattle.plan_core.specs.Names.{with_names}
use Rattle.plan_expr.specs.Exprs.{all_named_at}
use Rattle.plan_frame.specs.ExprLists.{all_leaves}
use Rattle.plan_expr.specs.Leaves.{Name}
use Rattle.plan_frame.proofs.ScalarExprs.{stands_here, item_here}
use Rattle.plan_prune_parts.proofs.AskLemmas.{keys-next}
use Rattle.plan_prune_parts.proofs.sides.key_names.Goals as goal

pub aexpr_to_leaf_names-requires : goal.aexpr_to_leaf_names-requires
aexpr_to_leaf_names-requires c = stands_here c.args.ex.now c.args.keys.now c.loop-key.key-index c.key-item.result c.requires c.loop-key-test.true c.key-item.is

pub loop-key-preserved : goal.loop-key-preserved
loop-key-preserved c =
    c.in_ok-add_listed.ensures.added
    ∙ ap (λ (l : List Name). with_names l c.as_slice.result.now) c.loop-key.invariant
    ∙ ap (λ (l : List Name). with_names (with_names [] (all_leaves (all_named_at c.args.ex.now (take c.loop-key.key-index c.args.keys.now)))) l) (c.as_slice.ensures ∙ c.in_ok-leaves.ensures)
    ∙ keys-next c.args.ex.now c.args.keys.now c.loop-key.key-index c.key-item.result (item_here c.args.keys.now c.loop-key.key-index c.key-item.result c.loop-key-test.true c.key-item.is)
