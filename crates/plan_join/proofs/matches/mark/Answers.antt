use Rattle.std.proofs.Common.{◌∙◌, ap, arith, sym, length, List, Bool, true, set, get_or, take, Vec, Global}
use Rattle.std.proofs.lemmas.List.{take_more}
use Rattle.plan_join.specs.Given.{marked}
use Rattle.plan_join.proofs.PlaceLemmas.{long, marked-more, marked-none, marked-past}
use Rattle.plan_join.proofs.matches.mark.Goals.{then-place-len, else-place-len}
use Rattle.plan_join.proofs.matches.mark.Goals as goal

pub loop-place-init : goal.loop-place-init
loop-place-init c = marked-none c.args.met.now.items

pub loop-place-preserved : goal.loop-place-preserved
loop-place-preserved c =
    let bs = c.args.met.now.items in
    let i = c.loop-place.place-index in
    let js = take i c.args.places.now in
    let x = get_or c.args.places.now i 0 in
    let next = ap (marked bs) (sym (take_more c.args.places.now i 0 c.loop-place-test.true)) in
    let same = ap length c.loop-place.invariant ∙ long bs js in
    elim c.if-place-len.branch [
      | then-place-len w ↦ ap (λ (v : Vec Bool Global). v.items) w.met-is ∙ ap (λ (l : List Bool). set l x true) c.loop-place.invariant ∙ marked-more bs js x (omega (arith, w.if-place-len.true, c.len.ensures, c.loop-place.met.ok, same)) ∙ next
      | else-place-len w ↦ ap (λ (v : Vec Bool Global). v.items) w.met-is ∙ c.loop-place.invariant ∙ marked-past bs js x (omega (arith, w.if-place-len.false, c.len.ensures, c.loop-place.met.ok, same)) ∙ next
    ]
