use Rattle.std.proofs.Common.{◌∙◌, ◌++◌, List, sym, ap}
use Rattle.std.proofs.lemmas.List.{append-nil}
use Rattle.plan_table.specs.declared.column.Column.{Column}
use Rattle.plan_table.proofs.ColumnLemmas.{put-copied}
use Rattle.plan_table.proofs.columns.ColumnsTryClone.try_clone.Goals as goal

pub loop-column-preserved : goal.loop-column-preserved
loop-column-preserved c =
    rw (c.in_ok-with_column.ensures.after, c.in_ok-try_clone.ensures)
    (put-copied c.loop-column.copy c.in-Some.column.now c.next.new.self c.loop-column.column-iterator c.args.self.now
    c.iter-column-items.ensures.distinct c.loop-column.invariant c.in-Some.ensures.steps)

pub returns : goal.returns
returns c = sym (append-nil c.loop-column.copy) ∙ ap (λ (left : List Column). c.loop-column.copy ++ left) (sym c.in-None.ensures.steps.0) ∙ c.loop-column.invariant
