use Rattle.std.proofs.Common.{◌≡◌, ◌∙◌, List, Some, None, ap, sym, rules}
use Rattle.plan_frame.specs.Frames.{row}
use Rattle.plan_frame.specs.Values.{Value}
use Rattle.plan_table.specs.Tables.{column_of}
use Rattle.plan_value.specs.Shown.{values_of}
use Rattle.plan_value.proofs.ShownLemmas.{column-absent, column-there}
use Rattle.plan_join_eval.proofs.AlongLemmas.{null-row}
use Rattle.plan_join_eval.proofs.joined.column_values.Goals as goal

pub returns-in-Some : goal.returns-in-Some
returns-in-Some c =
    let own : column_of c.args.table.now.columns c.args.name.now ≡ Some c.in-Some.column.now = search rules in
    λ i. ap (λ (vs : List Value). row vs i) (ap values_of c.as_slice.ensures ∙ column-there c.args.table.now c.args.name.now c.in-Some.column.now own)

pub returns-in-None : goal.returns-in-None
returns-in-None c =
    let none : column_of c.args.table.now.columns c.args.name.now ≡ None = search rules in
    λ i. sym (null-row c.args.table.now.height i) ∙ ap (λ (vs : List Value). row vs i) (column-absent c.args.table.now c.args.name.now none)
