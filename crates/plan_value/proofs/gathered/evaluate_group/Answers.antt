use Rattle.std.proofs.Common.{◌≡◌, ◌∙◌, ap, ap₂, sym, subst, List}
use Rattle.std.proofs.lemmas.Result.{IfOk-weaker}
use Rattle.plan_expr.specs.Exprs.{expr_at}
use Rattle.plan_expr.specs.Leaves.{Name, leaves}
use Rattle.plan_frame.specs.Frames.{Agree, rows_at}
use Rattle.plan_frame.specs.Grouping.{gathered_expr}
use Rattle.plan_frame.specs.Meaning.{only_value}
use Rattle.plan_frame.proofs.Depends.{val_depends}
use Rattle.plan_frame.proofs.GroupLemmas.{gathered-leaves}
use Rattle.plan_value.specs.Groups.{gathered_value}
use Rattle.plan_value.specs.Shown.{frame_of}
use Rattle.plan_value.proofs.GatheredLemmas.{gathered-is}
use Rattle.plan_value.proofs.gathered.evaluate_group.Goals as goal

pub returns : goal.returns
returns c =
    let own = rows_at c.args.rows.now (frame_of c.args.table.now) in
    let e = expr_at c.args.ex.now c.args.node in
    let whole = gathered_expr e in
    let part = frame_of c.in_ok-part.part in
    let same : Agree (leaves whole) part own = subst (λ (names : List Name). Agree names part own) (c.requires.names ∙ sym (gathered-leaves e)) c.in_ok-part.ensures in
    IfOk-weaker c.gathered.result _ _ (λ v h. h ∙ ap₂ gathered_value c.is_scalar.ensures c.in_ok-own.ensures ∙ gathered-is e part ∙ ap only_value (val_depends whole part own same)) c.gathered.ensures
