use Rattle.std.proofs.Common.{◌∙◌, ◌++◌, ◌∷◌, [], List, ap, ap₂, sym, map}
use Rattle.std.specs.List.{range_with_len}
use Rattle.std.proofs.lemmas.List.{append_assoc}
use Rattle.plan_frame.specs.Meaning.{value_at}
use Rattle.plan_frame.specs.Values.{Value}
use Rattle.plan_value.specs.Cells.{cell_of}
use Rattle.plan_value.specs.Shown.{values_of}
use Rattle.plan_value.proofs.RowLemmas.{values-rows}
use Rattle.plan_value.proofs.ShownLemmas.{values-push}
use Rattle.plan_join_eval.proofs.equal.append_values.Goals as goal

pub loop-row-preserved : goal.loop-row-preserved
loop-row-preserved c =
    let at = value_at (cell_of c.args.values.now) in
    let n = c.loop-row.row in
    let first = values_of c.args.column.now in
    ap values_of c.in_ok-push.ensures.pushed ∙ values-push c.loop-row.column c.in_ok-value_at.field-0
    ∙ ap₂ (λ (vs : List Value) (v : Value). vs ++ v ∷ []) c.loop-row.invariant c.in_ok-value_at.ensures.shown
    ∙ append_assoc first (map at (range_with_len 0 n)) (at n ∷ []) ∙ ap (λ (vs : List Value). first ++ vs) (sym (values-rows at n))
