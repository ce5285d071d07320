use Rattle.std.proofs.Common.{◌∙◌, ap, sym}
use Rattle.plan_value.specs.Shown.{values_of}
use Rattle.plan_value.proofs.ShownLemmas.{column-there, column-absent}
use Rattle.plan_value.proofs.exprs.column.Goals as goal

pub returns-in_ok-try_clone-in-Some : goal.returns-in_ok-try_clone-in-Some
returns-in_ok-try_clone-in-Some c = ap values_of c.in_ok-try_clone-in-Some.ensures ∙ column-there c.args.table.now c.args.name.now c.in-Some.column.now (sym c.in-Some.ensures)

pub returns-in_ok-repeated-in-None : goal.returns-in_ok-repeated-in-None
returns-in_ok-repeated-in-None c = c.in_ok-repeated-in-None.ensures ∙ column-absent c.args.table.now c.args.name.now (sym c.in-None.ensures)
