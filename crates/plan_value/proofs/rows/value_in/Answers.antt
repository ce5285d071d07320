use Rattle.std.proofs.Common.{◌∙◌, ap, sym}
use Rattle.plan_value.specs.Shown.{value_of}
use Rattle.plan_value.proofs.RowLemmas.{row-get, row-beyond}
use Rattle.plan_value.proofs.rows.value_in.Goals as goal

pub returns-in_ok-try_clone-in-Some : goal.returns-in_ok-try_clone-in-Some
returns-in_ok-try_clone-in-Some c = ap value_of c.in_ok-try_clone-in-Some.ensures ∙ sym (row-get c.args.values.now c.args.row c.in-Some.value.now c.in-Some.ensures.lookup.3.0 c.in-Some.ensures.lookup.1)

pub returns-in-None : goal.returns-in-None
returns-in-None c = sym (row-beyond c.args.values.now c.args.row c.in-None.ensures.lookup.3)
