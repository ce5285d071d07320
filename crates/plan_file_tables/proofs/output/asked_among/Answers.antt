use Rattle.std.proofs.Common.{◌≡◌, ◌∙◌, ◌++◌, true, sym, ap, append-nil}
use Rattle.plan_core.specs.Columns.{Columns}
use Rattle.plan_core.specs.Names.{has}
use Rattle.plan_scan.specs.Stats.{named_among}
use Rattle.plan_file_tables.proofs.OutputLemmas.{asked-next}
use Rattle.plan_file_tables.proofs.output.asked_among.Goals as goal

pub loop-name-preserved-in_ok-with_column : goal.loop-name-preserved-in_ok-with_column
loop-name-preserved-in_ok-with_column c =
    let there : has c.args.asked.now c.in-Some.name.now ≡ true = sym c.contains.ensures ∙ c.if-contains.true in
    rw (c.in_ok-with_column.ensures.after, c.in_ok-new.ensures)
    (asked-next c.args.asked.now c.args.file.now c.loop-name.columns c.in-Some.name.now c.in-Some.dtype.now c.next.new.self c.loop-name.name-iterator
    c.iter-name-items.ensures.distinct c.loop-name.invariant c.in-Some.ensures.steps there)

pub returns : goal.returns
returns c = sym (append-nil c.loop-name.columns) ∙ ap (λ (left : Columns). c.loop-name.columns ++ named_among c.args.asked.now left) (sym c.in-None.ensures.steps.0) ∙ c.loop-name.invariant
