use Rattle.std.proofs.Common.{◌∙◌, ap, sym}
use Rattle.plan_frame.specs.Reshaped.{items}
use Rattle.plan_value.proofs.RowLemmas.{row-get, row-beyond}
use Rattle.plan_function_tables.proofs.explode.items_in_row.Goals as goal

pub returns-in-Some : goal.returns-in-Some
returns-in-Some c = c.items_of.ensures ∙ ap items (sym (row-get c.args.values.now c.args.row c.in-Some.value.now c.in-Some.ensures.lookup.3.0 c.in-Some.ensures.lookup.1))

pub returns-in-None : goal.returns-in-None
returns-in-None c = ap items (sym (row-beyond c.args.values.now c.args.row c.in-None.ensures.lookup.3))
