use Rattle.std.proofs.Common.{◌∙◌, ◌++◌, ◌∷◌, [], List, ℕ, ap, ap₂, sym, if◌then◌else◌}
use Rattle.plan_frame.specs.Meaning.{value_at}
use Rattle.plan_frame.specs.Values.{Value, is_true}
use Rattle.plan_value.specs.Cells.{cell_of}
use Rattle.plan_value.specs.Shown.{values_of}
use Rattle.plan_value.proofs.RowLemmas.{values-rows}
use Rattle.plan_value.proofs.ShownLemmas.{values-push}
use Rattle.plan_value.proofs.choices.chosen.Goals as goal

pub loop-row-preserved : goal.loop-row-preserved
loop-row-preserved c =
    let at : ℕ → Value = λ (i : ℕ). if is_true (value_at (cell_of c.args.predicate.now) i) then value_at (cell_of c.args.truthy.now) i else value_at (cell_of c.args.falsy.now) i in
    ap values_of c.in_ok-push.ensures.pushed
    ∙ values-push c.loop-row.values c.in_ok-chosen_at-2.field-0
    ∙ ap₂ (λ (xs : List Value) (x : Value). xs ++ x ∷ []) c.loop-row.invariant c.in_ok-chosen_at-2.ensures
    ∙ sym (values-rows at c.loop-row.row)
