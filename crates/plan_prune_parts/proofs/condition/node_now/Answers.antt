use Rattle.std.proofs.Common.{◌≡◌, ◌∙◌, List, map, ap, ap₂, subst}
use Rattle.std.proofs.lemmas.Result.{IfOk-weaker}
use Rattle.plan_expr.specs.Leaves.{Name}
use Rattle.plan_meaning.specs.Functions.{renamed}
use Rattle.plan_pruned.specs.Renamed.{IsRenamed}
use Rattle.plan_prune_parts.specs.Left.{name_now}
use Rattle.plan_prune_parts.proofs.ConditionLemmas.{copy-renamed, own-renamed, same_lists}
use Rattle.plan_prune_parts.proofs.condition.node_now.Goals as goal

pub returns-then-ne-clause-expr : goal.returns-then-ne-clause-expr
returns-then-ne-clause-expr c =
    let now : Name → Name = name_now c.args.names.now in
    let names : List Name = c.in_ok-from.from in
    let to : c.in_ok-to.to ≡ map now names = c.in_ok-to.ensures ∙ ap (map now) c.as_slice.ensures in
    IfOk-weaker c.copy_renamed.result _ _ (λ made copied.
    copy-renamed now c.args.ex.now c.args.node c.requires names c.in_ok-from.ensures c.copy_renamed.new.ex made
    (subst (λ (f : Name → Name). IsRenamed f c.args.ex.now c.copy_renamed.new.ex c.args.node made) (ap₂ (λ (x y : List Name). renamed x y) c.as_slice-then-ne.ensures (c.as_slice-then-ne-2.ensures ∙ to)) copied)) c.copy_renamed.ensures.copied

pub returns-clause-expr : goal.returns-clause-expr
returns-clause-expr c =
    let now : Name → Name = name_now c.args.names.now in
    let names : List Name = c.in_ok-from.from in
    let to : c.in_ok-to.to ≡ map now names = c.in_ok-to.ensures ∙ ap (map now) c.as_slice.ensures in
    own-renamed now c.args.ex.now c.args.node c.requires names c.in_ok-from.ensures (same_lists names c.in_ok-to.to c.if-ne.ensures ∙ to)
