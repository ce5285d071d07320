use Rattle.std.proofs.Common.{◌≡◌, ◌∙◌, List, map, ap, sym}
use Rattle.std.proofs.lemmas.Result.{IfOk-weaker}
use Rattle.plan_expr.specs.Exprs.{expr_at}
use Rattle.plan_expr.specs.Leaves.{Name, leaves}
use Rattle.plan_meaning.specs.Functions.{renamed}
use Rattle.plan_collapse.specs.KeysAt.{own_in}
use Rattle.plan_collapse.proofs.LongerExprs.{copy-place}
use Rattle.plan_collapse.proofs.OwnNames.{own-copied}
use Rattle.plan_collapse.proofs.copies.own_copy.Goals as goal

pub returns-clause-expr : goal.returns-clause-expr
returns-clause-expr c =
    let names : List Name = c.as_slice-2.result.now in
    let owns : List Name = c.as_slice-3.result.now in
    let read : names ≡ leaves (expr_at c.args.ex.now c.args.node) = c.as_slice-2.ensures ∙ c.in_ok-from.ensures in
    let own : owns ≡ map (own_in c.args.origins.now) names = c.as_slice-3.ensures ∙ c.in_ok-to.ensures ∙ ap (map (own_in c.args.origins.now)) (c.as_slice.ensures ∙ sym c.as_slice-2.ensures) in
    IfOk-weaker c.copy_renamed.result _ _ (λ copy is. λ j h. own-copied j c.args.origins.now h c.args.ex.now c.copy_renamed.new.ex c.args.node copy c.requires names owns read own is) c.copy_renamed.ensures.copied

pub returns-clause-place : goal.returns-clause-place
returns-clause-place c = IfOk-weaker c.copy_renamed.result _ _ (λ copy is. copy-place (renamed c.as_slice-2.result.now c.as_slice-3.result.now) c.args.ex.now c.copy_renamed.new.ex c.args.node copy c.copy_renamed.ensures.longer is) c.copy_renamed.ensures.copied
