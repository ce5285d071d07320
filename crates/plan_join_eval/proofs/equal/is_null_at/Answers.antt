use Rattle.std.proofs.Common.{◌∙◌, ap, sym}
use Rattle.plan_frame.specs.Meaning.{value_at}
use Rattle.plan_frame.specs.Values.{is_null}
use Rattle.plan_value.specs.declared.exprs.Values.{Values}
use Rattle.plan_value.specs.Cells.{cell_of}
use Rattle.plan_value.proofs.RowLemmas.{row-get, row-beyond}
use Rattle.plan_join_eval.proofs.equal.is_null_at.Goals as goal

pub returns-in-Some : goal.returns-in-Some
returns-in-Some c =
    let there = rw c.as_slice.ensures at c.in-Some.ensures.lookup in
    c.is_null-in-Some.ensures
    ∙ ap is_null (sym (row-get c.in-Many.values c.args.row c.in-Some.value.now there.3.0 there.1))
    ∙ ap (λ (v : Values). is_null (value_at (cell_of v) c.args.row)) (sym c.in-Many.is)

pub returns-in-None : goal.returns-in-None
returns-in-None c =
    let there = rw c.as_slice.ensures at c.in-None.ensures.lookup in
    ap is_null (sym (row-beyond c.in-Many.values c.args.row there.3)) ∙ ap (λ (v : Values). is_null (value_at (cell_of v) c.args.row)) (sym c.in-Many.is)
