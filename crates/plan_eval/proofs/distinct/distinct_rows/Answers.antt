use Rattle.std.proofs.Common.{[], ℕ, List, subst, sym}
use Rattle.std.proofs.lemmas.Result.{IfOk-weaker}
use Rattle.plan_meaning.specs.Choices.{AreChosen}
use Rattle.plan_frame.specs.Meaning.{Cell, are_alike}
use Rattle.plan_eval.proofs.DistinctLemmas.{alike-chosen, no-cells}
use Rattle.plan_eval.proofs.distinct.distinct_rows.Goals as goal

pub returns-in-empty : goal.returns-in-empty
returns-in-empty c =
    let o = c.args.options.now in
    let h = c.args.height in
    IfOk-weaker c.rows_of_alike.result _ _
    (λ rows is.
    subst (λ (cells : List Cell). AreChosen o.maintain_order o.keep_strategy (are_alike cells) h rows.items) (sym (no-cells c.args.columns.now c.in-empty.len_below))
    (subst (λ (l : List ℕ). AreChosen o.maintain_order o.keep_strategy (are_alike []) h l) (sym is) (alike-chosen o.maintain_order o.keep_strategy h)))
    c.rows_of_alike.ensures
