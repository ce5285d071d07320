use Rattle.std.proofs.Common.{◌∙◌, List, ap, sym, refl}
use Rattle.plan_core.specs.Columns.{with_types}
use Rattle.plan_frame.specs.Frames.{with_columns}
use Rattle.plan_table.specs.declared.column.Column.{Column as Typed}
use Rattle.plan_table.specs.Tables.{types_of}
use Rattle.plan_value.specs.Shown.{column_shown, columns_shown}
use Rattle.plan_eval.proofs.ColumnLemmas.{put-first, put-type}
use Rattle.plan_eval.proofs.hstack.with_all.Goals as goal

pub loop-column-preserved : goal.loop-column-preserved
loop-column-preserved c =
    let d = c.in-Some.column in
    let rest = c.next.new.self.rest.items in
    let done = c.loop-column.table.columns in
    let inv = c.loop-column.invariant in
    let steps = c.in-Some.ensures.steps.0 in
    rw c.in_ok-with_column.ensures.after (record {
      height = inv.height;
      shown = put-first done d (column_shown d) (columns_shown rest) _ refl (sym (ap (λ (cs : List Typed). with_columns (columns_shown done) (columns_shown cs)) steps) ∙ inv.shown);
      types = put-type done d (d.name, d.dtype) (types_of rest) _ refl (sym (ap (λ (cs : List Typed). with_types (types_of done) (types_of cs)) steps) ∙ inv.types);
    })
