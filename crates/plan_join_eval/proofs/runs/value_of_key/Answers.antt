use Rattle.std.proofs.Common.{◌∙◌, ap, sym}
use Rattle.plan_frame.specs.Meaning.{value_at}
use Rattle.plan_value.specs.declared.exprs.Values.{Values}
use Rattle.plan_value.specs.Cells.{cell_of}
use Rattle.plan_value.specs.Shown.{value_of}
use Rattle.plan_value.proofs.RowLemmas.{row-get, row-beyond}
use Rattle.plan_join_eval.proofs.runs.value_of_key.Goals as goal

pub returns-in-Some : goal.returns-in-Some
returns-in-Some c =
    let there = rw c.as_slice.ensures at c.in-Some.ensures.lookup in
    sym (row-get c.in-Many.values c.args.row c.in-Some.value.now there.3.0 there.1) ∙ ap (λ (v : Values). value_at (cell_of v) c.args.row) (sym c.in-Many.is)

pub returns-in-None : goal.returns-in-None
returns-in-None c =
    let there = rw c.as_slice.ensures at c.in-None.ensures.lookup in
    ap value_of c.requires ∙ sym (row-beyond c.in-Many.values c.args.row there.3) ∙ ap (λ (v : Values). value_at (cell_of v) c.args.row) (sym c.in-Many.is)
