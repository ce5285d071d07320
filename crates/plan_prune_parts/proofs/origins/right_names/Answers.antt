use Rattle.std.proofs.Common.{◌∙◌, List, ap₂}
use Rattle.std.proofs.lemmas.Result.{IfOk-weaker}
use Rattle.plan_expr.specs.Leaves.{Name}
use Rattle.plan_meaning.specs.Functions.{new_name}
use Rattle.plan_prune_parts.proofs.origins.right_names.Goals as goal

pub returns : goal.returns
returns c = IfOk-weaker c.new.result _ _ (λ names is. λ a.
    is a ∙ ap₂ (λ (xs ys : List Name). new_name xs ys a) (c.as_slice.ensures ∙ c.in_ok-called.ensures) (c.as_slice-2.ensures ∙ c.in_ok-own.ensures)) c.new.ensures
