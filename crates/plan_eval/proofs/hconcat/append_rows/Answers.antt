use Rattle.std.proofs.Common.{◌∙◌, List, ap, sym, fold}
use Rattle.std.specs.List.{range_with_len}
use Rattle.plan_core.specs.Columns.{Columns}
use Rattle.plan_frame.specs.Frames.{Column, picked_columns, with_new_column}
use Rattle.plan_frame.specs.Beside.{with_new}
use Rattle.plan_table.specs.declared.column.Column.{Column as Typed}
use Rattle.plan_table.specs.Tables.{types_of}
use Rattle.plan_value.specs.Shown.{columns_shown}
use Rattle.plan_eval.proofs.hconcat.append_rows.Goals as goal

pub loop-column-preserved : goal.loop-column-preserved
loop-column-preserved c =
    let rest = c.next.new.self in
    let done = c.loop-column.columns in
    let rows = range_with_len 0 c.args.height in
    let inv = c.loop-column.invariant in
    let steps = c.in-Some.ensures.steps in
    record {
      shown =
          ap (λ (cs : List Column). fold with_new_column cs (picked_columns rows (columns_shown rest))) c.in_ok-append_column.ensures.shown
          ∙ ap (λ (cs : List Typed). fold with_new_column (columns_shown done) (picked_columns rows (columns_shown cs))) (sym steps)
          ∙ inv.shown;
      types =
          ap (λ (cs : Columns). fold with_new cs (types_of rest)) c.in_ok-append_column.ensures.types
          ∙ ap (λ (cs : List Typed). fold with_new (types_of done) (types_of cs)) (sym steps)
          ∙ inv.types;
    }
