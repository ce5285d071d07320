use Rattle.std.proofs.Common.{◌∙◌, ◌++◌, ◌∷◌, List, sym, ap}
use Rattle.std.proofs.lemmas.List.{append-nil}
use Rattle.plan_table.specs.declared.column.Column.{Column}
use Rattle.plan_table.proofs.ColumnLemmas.{put-copied}
use Rattle.plan_function_tables.proofs.FunctionLemmas.{behind-apart}
use Rattle.plan_function_tables.proofs.function.behind.Goals as goal

pub loop-column-preserved : goal.loop-column-preserved
loop-column-preserved c =
    rw c.in_ok-with_column-2.ensures.after
    (put-copied c.loop-column.made c.in-Some.column c.next.new.self c.loop-column.column-iterator (c.args.first ∷ c.args.columns)
    (behind-apart c.args.first c.args.columns c.into_values-column-items.ensures.distinct c.requires) c.loop-column.invariant c.in-Some.ensures.steps)

pub returns : goal.returns
returns c = sym (append-nil c.loop-column.made) ∙ ap (λ (left : List Column). c.loop-column.made ++ left) (sym c.in-None.ensures.steps.0) ∙ c.loop-column.invariant
