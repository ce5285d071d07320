use Rattle.std.proofs.Common.{◌∙◌, ap, ap₂}
use Rattle.std.proofs.lemmas.Result.{IfOk-weaker}
use Rattle.plan_core.specs.Columns.{Columns}
use Rattle.plan_expr.specs.Leaves.{Name}
use Rattle.plan_join.specs.Naming.{with_right}
use Rattle.plan_pruned.specs.JoinPruned.{first_of_each}
use Rattle.plan_prune_parts.proofs.KeyLemmas.{within}
use Rattle.plan_prune_parts.proofs.pruned.join_schema.Goals as goal

pub right_rest-requires : goal.right_rest-requires
right_rest-requires c = within c.args.ex.now c.args.right_on.now c.requires

pub returns : goal.returns
returns c = IfOk-weaker c.first_columns-made.result _ _ (λ made is.
    is ∙ ap first_of_each (ap₂ (λ (s : Name) (r : Columns). with_right s c.args.rest.now r) c.suffix.ensures c.in_ok-others.ensures)) c.first_columns-made.ensures
