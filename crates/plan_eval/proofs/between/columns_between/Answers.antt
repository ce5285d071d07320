use Rattle.std.proofs.Common.{◌≡◌, ◌∙◌, ◌-◌, ◌∷◌, ℕ, List, ap, ap₂, sym}
use Rattle.std.specs.List.{range_with_len}
use Rattle.plan_core.specs.declared.data_type.DataType.{DataType}
use Rattle.plan_expr.specs.Leaves.{Name}
use Rattle.plan_frame.specs.Frames.{Column, picked_columns}
use Rattle.plan_table.specs.declared.column.Column.{Column as Typed}
use Rattle.plan_table.specs.Tables.{types_of}
use Rattle.plan_value.specs.Shown.{columns_shown}
use Rattle.plan_value.proofs.ColumnLemmas.{put-types, put-shown}
use Rattle.plan_eval.proofs.between.columns_between.Goals as goal

pub loop-column-preserved : goal.loop-column-preserved
loop-column-preserved c =
    let rows : List ℕ = range_with_len c.args.first (c.args.end - c.args.first) in
    let d = c.in_ok-column_between.field-0 in
    let own = c.in-Some.column.now in
    let rest = c.next.new.self in
    let named : own.name ≡ d.name = ap (λ (x : Column). x.name) (sym c.in_ok-column_between.ensures.shown) in
    let typed : (own.name, own.dtype) ≡ (d.name, d.dtype) = ap₂ (λ (a : Name) (t : DataType). (a, t)) named (sym c.in_ok-column_between.ensures.dtype) in
    let steps = ap types_of c.in-Some.ensures.steps ∙ ap (λ (x : Name × DataType). x ∷ types_of rest) typed in
    let left = ap (λ (cs : List Typed). picked_columns rows (columns_shown cs)) c.in-Some.ensures.steps ∙ ap (λ (x : Column). x ∷ picked_columns rows (columns_shown rest)) (sym c.in_ok-column_between.ensures.shown) in
    rw c.in_ok-with_column.ensures.after (
      put-shown c.loop-column.columns d (types_of c.loop-column.column-iterator) (types_of rest) (types_of c.args.table.now.columns) c.iter-column-items.ensures.distinct c.loop-column.invariant.1 steps
          (picked_columns rows (columns_shown c.loop-column.column-iterator)) (picked_columns rows (columns_shown rest)) (picked_columns rows (columns_shown c.args.table.now.columns)) c.loop-column.invariant.0 left,
      put-types c.loop-column.columns d (types_of c.loop-column.column-iterator) (types_of rest) (types_of c.args.table.now.columns) c.iter-column-items.ensures.distinct c.loop-column.invariant.1 steps,
    )
