use Rattle.std.proofs.Common.{◌∙◌, List, Option, ap, subst}
use Rattle.std.proofs.lemmas.Result.{IfOk-weaker}
use Rattle.plan_expr.specs.Leaves.{Name}
use Rattle.plan_prune_joins.specs.Joined.{IsKept, step_of_join}
use Rattle.plan_prune_parts.specs.declared.kept.Kept.{Kept}
use Rattle.plan_prune_joins.proofs.JoinParts.{unkept_join}
use Rattle.plan_prune_joins.proofs.join.prepare.Goals as goal

pub returns-in-None : goal.returns-in-None
returns-in-None c =
    let lp = c.args.lp.now in
    let ex = c.args.ex.now in
    let unkept = subst (λ (k : Option Kept). IsKept lp ex c.args.asked.now c.args.join k) c.in-None.is c.requires.kept in
    let none = unkept_join lp ex c.args.asked.now c.args.join c.requires.kind unkept in
    IfOk-weaker c.prepare_unasked.result _ _ (λ step same. same lp ∙ ap (λ (l : List Name). step_of_join lp ex l c.args.join) none) c.prepare_unasked.ensures
