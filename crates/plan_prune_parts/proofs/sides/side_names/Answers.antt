use Rattle.std.proofs.Common.{◌∙◌, List, ap, take}
use Rattle.plan_core.specs.Names.{with_names}
use Rattle.plan_expr.specs.Exprs.{all_named_at}
use Rattle.plan_expr.specs.Leaves.{Name}
use Rattle.plan_frame.proofs.ScalarExprs.{item_here}
use Rattle.plan_meaning.specs.JoinAsked.{side_asked, side_names}
use Rattle.plan_prune_parts.specs.Origins.{origin_in}
use Rattle.plan_prune_parts.proofs.AskLemmas.{names-next, none-asked}
use Rattle.plan_prune_parts.proofs.sides.side_names.Goals as goal

pub loop-name-init : goal.loop-name-init
loop-name-init c = c.in_ok-names.ensures ∙ none-asked c.args.side (all_named_at c.args.ex.now c.args.keys.now) (origin_in c.args.origins.now) c.args.columns.now

pub loop-name-preserved : goal.loop-name-preserved
loop-name-preserved c =
    let keys = all_named_at c.args.ex.now c.args.keys.now in
    let by = origin_in c.args.origins.now in
    let s = c.args.columns.now in
    c.in_ok-add_asked.ensures
    ∙ ap (λ (l : List Name). with_names l (side_names c.args.side by s c.as_str.result.now)) c.loop-name.invariant
    ∙ ap (λ (a : Name). with_names (side_asked c.args.side keys by s (take c.loop-name.name-index c.args.needed.now)) (side_names c.args.side by s a)) c.as_str.ensures
    ∙ names-next c.args.side keys by s c.args.needed.now c.loop-name.name-index c.name-item.result (item_here c.args.needed.now c.loop-name.name-index c.name-item.result c.loop-name-test.true c.name-item.is)
