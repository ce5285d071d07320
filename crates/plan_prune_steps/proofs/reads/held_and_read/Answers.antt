use Rattle.std.proofs.Common.{◌≡◌, ◌∙◌, ap, List}
use Rattle.std.proofs.lemmas.Result.{IfOk-at_ok, IfOk-weaker}
use Rattle.plan_core.specs.Names.{with_names}
use Rattle.plan_expr.specs.Exprs.{all_named_at}
use Rattle.plan_expr.specs.Leaves.{Name}
use Rattle.plan_frame.specs.ExprLists.{all_leaves}
use Rattle.plan_prune_steps.proofs.reads.held_and_read.Goals as goal

pub returns : goal.returns
returns c =
    let read : List Name = all_leaves (all_named_at c.args.ex.now c.args.exprs.now) in
    IfOk-weaker c.with_added.result _ _
    (λ names is. is.0 ∙ IfOk-at_ok (λ _. c.add_all_names-added.new.names ≡ with_names c.in_ok-names.names read) is.1 c.add_all_names-added.ensures ∙ ap (λ (l : List Name). with_names l read) (c.in_ok-names.ensures c.args.ex.now))
    c.with_added.ensures
