use Rattle.std.proofs.Common.{◌∙◌, ◌++◌, ◌∷◌, [], List, ap, ap₂, rules}
use Rattle.std.specs.Int.{w64}
use Rattle.std.proofs.lemmas.Int.{to_z-of_z}
use Rattle.plan_frame.specs.Values.{Value, whole}
use Rattle.plan_value.specs.Shown.{values_of}
use Rattle.plan_value.proofs.ShownLemmas.{values-push}
use Rattle.plan_file_tables.proofs.NumberLemmas.{numbers-next}
use Rattle.plan_file_tables.proofs.numbers.row_numbers.Goals as goal

pub loop-row-preserved : goal.loop-row-preserved
loop-row-preserved c =
    ap values_of c.in_ok-push.ensures.pushed
    ∙ values-push c.loop-row.numbers _
    ∙ ap₂ (λ (vs : List Value) (v : Value). vs ++ v ∷ []) c.loop-row.invariant (ap whole (to_z-of_z w64 c.row_number.result (search rules) ∙ c.row_number.ensures))
    ∙ numbers-next c.args.first c.loop-row.row
