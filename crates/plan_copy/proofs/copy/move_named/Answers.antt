use Rattle.std.proofs.Common.{◌∙◌, ap, map}
use Rattle.std.proofs.lemmas.Result.{IfOk-weaker}
use Rattle.plan_ir.specs.Moved.{moved_named}
use Rattle.plan_ir.proofs.PlanLemmas.{map_twice}
use Rattle.plan_copy.proofs.copy.move_named.Goals as goal

pub returns : goal.returns
returns c =
    let items = c.as_slice.result.now in
    IfOk-weaker c.move_each.result _ _ (λ moved h.
    h
    ∙ map_twice (moved_named c.args.exprs.now) (λ e. e.now) items
    ∙ ap (map (moved_named c.args.exprs.now)) (ap (map (λ e. e.now)) c.as_slice.ensures ∙ c.in_ok-own.ensures)) c.move_each.ensures
