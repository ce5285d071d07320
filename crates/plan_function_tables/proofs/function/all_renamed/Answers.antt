use Rattle.std.proofs.Common.{◌∙◌, ◌++◌, List, map, sym, ap}
use Rattle.std.proofs.lemmas.List.{append-nil}
use Rattle.plan_expr.specs.Leaves.{Name}
use Rattle.plan_meaning.specs.Functions.{names_now}
use Rattle.plan_table.specs.declared.column.Column.{Column}
use Rattle.plan_table.proofs.ColumnLemmas.{put-copied}
use Rattle.plan_function_tables.specs.Function.{under}
use Rattle.plan_function_tables.proofs.FunctionLemmas.{under-apart}
use Rattle.plan_function_tables.proofs.function.all_renamed.Goals as goal

pub loop-column-preserved : goal.loop-column-preserved
loop-column-preserved c =
    let now : Name → Name = names_now c.args.names.now in
    let renamed : List Column → List Column = map (under now) in
    rw (c.in_ok-with_column.ensures.after, c.in_ok-column_renamed.ensures)
    (put-copied c.loop-column.made (under now c.in-Some.column) (renamed c.next.new.self) (renamed c.loop-column.column-iterator) (renamed c.args.columns)
    (under-apart now c.args.columns c.into_values-column-items.ensures.distinct c.requires) c.loop-column.invariant (ap renamed c.in-Some.ensures.steps))

pub returns : goal.returns
returns c =
    let renamed : List Column → List Column = map (under (names_now c.args.names.now)) in
    sym (append-nil c.loop-column.made) ∙ ap (λ (left : List Column). c.loop-column.made ++ renamed left) (sym c.in-None.ensures.steps.0) ∙ c.loop-column.invariant
