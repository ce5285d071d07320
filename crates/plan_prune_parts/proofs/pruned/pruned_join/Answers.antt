use Rattle.std.proofs.Common.{◌∙◌, sym, ap, ap₂, List}
use Rattle.std.proofs.lemmas.Result.{IfOk-weaker}
use Rattle.plan_core.specs.Columns.{Columns}
use Rattle.plan_options.specs.Join.{suffix_of}
use Rattle.plan_expr.specs.Leaves.{Name}
use Rattle.plan_join.specs.Naming.{has_right, join_columns, key_columns, right_rest, with_right}
use Rattle.plan_join.specs.Told.{told_at}
use Rattle.plan_pruned.specs.JoinPruned.{first_of_each, narrowed_told, topped_if}
use Rattle.plan_prune_parts.proofs.KeyLemmas.{columns_at}
use Rattle.plan_prune_parts.proofs.pruned.pruned_join.Goals as goal

pub returns-clause-told : goal.returns-clause-told
returns-clause-told c = IfOk-weaker c.named_join-join.result _ _ (λ join told.
    told ∙ ap (λ (now : Name → Name). narrowed_told now c.args.options.args (told_at c.args.ex.now c.args.options)) c.in_ok-names.ensures.now) c.named_join-join.ensures.told

pub returns-clause-schema : goal.returns-clause-schema
returns-clause-schema c = IfOk-weaker c.named_join-join.result _ _ (λ join same.
    let args = c.args.options.args in
    same ∙ c.in_ok-schema.ensures
    ∙ ap first_of_each
    (ap (λ (l : Columns). with_right (suffix_of args) l (right_rest args (key_columns c.args.ex.now c.args.right_on.now) c.args.right.now)) c.in_ok-names.ensures.left
    ∙ ap₂ (λ (lk rk : List Name). join_columns args lk rk c.args.left.now c.args.right.now) (sym (columns_at c.args.ex.now c.args.left_on.now c.requires.left_keys)) (sym (columns_at c.args.ex.now c.args.right_on.now c.requires.right_keys)))) c.named_join-join.ensures.schema

pub returns-clause-top : goal.returns-clause-top
returns-clause-top c = IfOk-weaker c.named_join-join.result _ _ (λ join top. λ plan.
    top plan ∙ ap (λ (now : Name → Name). topped_if (has_right c.args.options.args.how) now c.args.asked.now join.schema plan) c.in_ok-names.ensures.now) c.named_join-join.ensures.top
