use Rattle.std.proofs.Common.{◌≡◌, ◌∙◌, ◌++◌, false, sym, subst, List}
use Rattle.plan_expr.specs.declared.expr_ir.ExprIR.{ExprIR}
use Rattle.plan_meaning.specs.Checks.{is_empty}
use Rattle.plan_cluster.specs.ExprNames.{expr_names}
use Rattle.plan_cluster.specs.Meetings.{IsMet}
use Rattle.plan_cluster.specs.Parts.{AreParts}
use Rattle.plan_cluster.specs.declared.layer.Addition.{Addition as Taken}
use Rattle.plan_cluster.specs.declared.layer.Layer.TheVariants.{Adds}
use Rattle.plan_cluster.specs.declared.meeting.Meeting.TheVariants.{Merged}
use Rattle.plan_cluster.proofs.MeetLemmas.{none-both, none-length, once-takes, some-first, some-last, some-length}
use Rattle.plan_cluster.proofs.MetLemmas.{met-merged, met-rests, moved-met}
use Rattle.plan_cluster.proofs.meeting.meet.Goals.{else-len-eq0-2-via-else-len-eq0-2, else-len-eq0-2-via-then-len-eq0-2+else-len-eq0-3}
use Rattle.plan_cluster.proofs.meeting.meet.Goals as goal

pub merge-requires : goal.merge-requires
merge-requires c =
    let ex = c.args.ex.now in
    let u = c.args.upper.now in
    let l = c.args.lower.now in
    let p = c.in_ok-parts.parts in
    let are : AreParts ex u.exprs (expr_names l.exprs) p = subst (λ (ls : List ExprIR). AreParts ex u.exprs (expr_names ls) p) c.as_slice-2.ensures (subst (λ (us : List ExprIR). AreParts ex us (expr_names c.as_slice-2.result.now) p) c.as_slice.ensures c.in_ok-parts.ensures) in
    once-takes ex u l p are c.requires.upper_once c.requires.lower_once

pub returns-then-len-eq0 : goal.returns-then-len-eq0
returns-then-len-eq0 c =
    let ex = c.args.ex.now in
    let u = c.args.upper.now in
    let l = c.args.lower.now in
    let p = c.in_ok-parts.parts in
    let are : AreParts ex u.exprs (expr_names l.exprs) p = subst (λ (ls : List ExprIR). AreParts ex u.exprs (expr_names ls) p) c.as_slice-2.ensures (subst (λ (us : List ExprIR). AreParts ex us (expr_names c.as_slice-2.result.now) p) c.as_slice.ensures c.in_ok-parts.ensures) in
    subst (λ (x : Taken). IsMet ex (Adds u) (Adds l) (Adds c.merge.new.upper) (Adds x) Merged) (sym c.in_ok-merge.ensures)
    (met-merged ex u l p are c.requires.upper_once c.requires.lower_once (none-length p.stays (sym c.len.ensures ∙ c.if-len-eq0.true)) c.merge.new.upper)

pub returns-then-len-eq0-3 : goal.returns-then-len-eq0-3
returns-then-len-eq0-3 c =
    let ex = c.args.ex.now in
    let u = c.args.upper.now in
    let l = c.args.lower.now in
    let p = c.in_ok-parts.parts in
    let are : AreParts ex u.exprs (expr_names l.exprs) p = subst (λ (ls : List ExprIR). AreParts ex u.exprs (expr_names ls) p) c.as_slice-2.ensures (subst (λ (us : List ExprIR). AreParts ex us (expr_names c.as_slice-2.result.now) p) c.as_slice.ensures c.in_ok-parts.ensures) in
    met-rests ex u l p are c.requires.upper_once c.requires.lower_once
    (some-length p.stays (λ q. c.if-len-eq0.false (c.len.ensures ∙ q)))
    (none-both p.takes p.moves (none-length p.takes (sym c.len-2.ensures ∙ c.if-len-eq0-2.true)) (none-length p.moves (sym c.len-then-len-eq0-2.ensures ∙ c.if-len-eq0-3.true)))

pub part-requires : goal.part-requires
part-requires c =
    let ex = c.args.ex.now in
    let u = c.args.upper.now in
    let l = c.args.lower.now in
    let p = c.in_ok-parts.parts in
    let are : AreParts ex u.exprs (expr_names l.exprs) p = subst (λ (ls : List ExprIR). AreParts ex u.exprs (expr_names ls) p) c.as_slice-2.ensures (subst (λ (us : List ExprIR). AreParts ex us (expr_names c.as_slice-2.result.now) p) c.as_slice.ensures c.in_ok-parts.ensures) in
    once-takes ex u l p are c.requires.upper_once c.requires.lower_once

pub returns : goal.returns
returns c =
    let ex = c.args.ex.now in
    let u = c.args.upper.now in
    let l = c.args.lower.now in
    let p = c.in_ok-parts.parts in
    let are : AreParts ex u.exprs (expr_names l.exprs) p = subst (λ (ls : List ExprIR). AreParts ex u.exprs (expr_names ls) p) c.as_slice-2.ensures (subst (λ (us : List ExprIR). AreParts ex us (expr_names c.as_slice-2.result.now) p) c.as_slice.ensures c.in_ok-parts.ensures) in
    let some : is_empty (p.takes ++ p.moves) ≡ false = elim c.else-len-eq0-2.branch [
      | else-len-eq0-2-via-then-len-eq0-2+else-len-eq0-3 w ↦ some-last p.takes p.moves (some-length p.moves (λ q. w.if-len-eq0-3.false (w.len-then-len-eq0-2.ensures ∙ q)))
      | else-len-eq0-2-via-else-len-eq0-2 w ↦ some-first p.takes p.moves (some-length p.takes (λ q. w.if-len-eq0-2.false (c.len-2.ensures ∙ q)))
    ] in
    moved-met ex u l p are c.requires.upper_once c.requires.lower_once (some-length p.stays (λ q. c.if-len-eq0.false (c.len.ensures ∙ q))) some c.part.new.upper c.part.new.lower c.part.result c.part.ensures.lower c.part.ensures.upper
