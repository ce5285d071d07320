use Rattle.std.proofs.Common.{◌∙◌, List, ap, sym}
use Rattle.plan_frame.specs.Frames.{row}
use Rattle.plan_frame.specs.Values.{Value}
use Rattle.plan_function_tables.proofs.ExplodeLemmas.{single-get, single-beyond}
use Rattle.plan_function_tables.proofs.explode.item_at.Goals as goal

pub returns-in_ok-alone-in-Some : goal.returns-in_ok-alone-in-Some
returns-in_ok-alone-in-Some c =
    c.in_ok-alone-in-Some.ensures
    ∙ sym (single-get c.items_in_row.result.now c.args.place c.in-Some.single.now c.in-Some.ensures.lookup.3.0 c.in-Some.ensures.lookup.1)
    ∙ ap (λ (vs : List Value). row vs c.args.place) c.items_in_row.ensures

pub returns-in-None : goal.returns-in-None
returns-in-None c = sym (single-beyond c.items_in_row.result.now c.args.place c.in-None.ensures.lookup.3) ∙ ap (λ (vs : List Value). row vs c.args.place) c.items_in_row.ensures
