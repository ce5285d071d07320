use Rattle.std.proofs.Common.{◌∙◌, ◌++◌, List, ap, sym}
use Rattle.std.proofs.lemmas.List.{map-append}
use Rattle.plan_frame.specs.Values.{Value}
use Rattle.plan_value.specs.Shown.{value_of, values_of}
use Rattle.plan_value.proofs.ShownLemmas.{column-there, column-absent}
use Rattle.plan_file_tables.proofs.appended.append_column.Goals as goal

pub returns-in_ok-append-in-Some : goal.returns-in_ok-append-in-Some
returns-in_ok-append-in-Some c =
    ap values_of c.in_ok-append-in-Some.ensures
    ∙ map-append value_of c.args.values.now c.as_slice.result.now
    ∙ ap (λ (vs : List Value). values_of c.args.values.now ++ vs) (ap values_of c.as_slice.ensures ∙ column-there c.args.table.now c.args.name.now c.in-Some.column.now (sym c.in-Some.ensures))

pub returns-in_ok-append_times-in-None : goal.returns-in_ok-append_times-in-None
returns-in_ok-append_times-in-None c =
    c.in_ok-append_times-in-None.ensures
    ∙ ap (λ (vs : List Value). values_of c.args.values.now ++ vs) (column-absent c.args.table.now c.args.name.now (sym c.in-None.ensures))
