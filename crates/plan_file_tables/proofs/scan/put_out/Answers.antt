use Rattle.std.proofs.Common.{◌≡◌, ◌∙◌, ◌∷◌, List, ap, ap₂, sym}
use Rattle.plan_core.specs.Columns.{Columns, names_of}
use Rattle.plan_core.specs.declared.data_type.DataType.{DataType}
use Rattle.plan_expr.specs.Leaves.{Name}
use Rattle.plan_file_scan.specs.FileFrames.{scan_values}
use Rattle.plan_frame.specs.Frames.{Column, table_columns}
use Rattle.plan_frame.specs.Values.{Value}
use Rattle.plan_value.proofs.ColumnLemmas.{put-types, put-shown}
use Rattle.plan_file_tables.specs.Parts.{parts_shown}
use Rattle.plan_file_tables.proofs.scan.put_out.Goals as goal

pub loop-name-preserved : goal.loop-name-preserved
loop-name-preserved c =
    let d = c.in_ok-scan_column.field-0 in
    let rest = c.next.new.self in
    let values : Name → List Value = scan_values c.args.options.now (parts_shown c.args.parts.now) in
    let typed : (c.in-Some.name.now, c.in-Some.dtype.now) ≡ (d.name, d.dtype) = ap₂ (λ (a : Name) (t : DataType). (a, t)) (sym c.in_ok-scan_column.ensures.name) (sym c.in_ok-scan_column.ensures.dtype) in
    let steps = c.in-Some.ensures.steps ∙ ap (λ (x : Name × DataType). x ∷ rest) typed in
    let left = ap (λ (cs : Columns). table_columns (names_of cs) values) c.in-Some.ensures.steps ∙ ap (λ (x : Column). x ∷ table_columns (names_of rest) values) (sym c.in_ok-scan_column.ensures.shown) in
    rw c.in_ok-with_column.ensures.after (
      put-shown c.loop-name.columns d c.loop-name.name-iterator rest c.args.schema.now c.iter-name-items.ensures.distinct c.loop-name.invariant.1 steps
          (table_columns (names_of c.loop-name.name-iterator) values) (table_columns (names_of rest) values) (table_columns (names_of c.args.schema.now) values) c.loop-name.invariant.0 left,
      put-types c.loop-name.columns d c.loop-name.name-iterator rest c.args.schema.now c.iter-name-items.ensures.distinct c.loop-name.invariant.1 steps,
    )
