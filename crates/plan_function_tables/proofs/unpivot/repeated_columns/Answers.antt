use Rattle.std.proofs.Common.{◌≡◌, ◌∙◌, ◌+◌, ◌∷◌, List, drop, ap, ap₂, sym, subst}
use Rattle.std.proofs.lemmas.List.{drop_more}
use Rattle.plan_core.specs.Columns.{HasDistinctNames}
use Rattle.plan_core.specs.Names.{AreDistinct}
use Rattle.plan_core.specs.declared.data_type.DataType.{DataType}
use Rattle.plan_expr.specs.Leaves.{Name}
use Rattle.plan_frame.specs.Frames.{Column, table_columns}
use Rattle.plan_frame.specs.Reshaped.{columns_at, type_or, repeated}
use Rattle.plan_frame.specs.Values.{Value}
use Rattle.plan_schema.proofs.UnpivotColumns.{names-at}
use Rattle.plan_value.specs.Shown.{column_shown, frame_of, schema_of}
use Rattle.plan_value.proofs.ColumnLemmas.{put-types, put-shown}
use Rattle.plan_function_tables.proofs.UnpivotLemmas.{distinct-differ}
use Rattle.plan_function_tables.proofs.unpivot.repeated_columns.Goals as goal

pub loop-name-preserved : goal.loop-name-preserved
loop-name-preserved c =
    let s = schema_of c.args.table.now in
    let values : Name → List Value = repeated c.args.names.now (frame_of c.args.table.now) in
    let index = c.args.index.now in
    let i = c.loop-name.name-index in
    let a = c.name-item.result in
    let d = c.in_ok-repeated_column.field-0 in
    let by = c.in_ok-repeated_column.ensures in
    let left : List Name = drop i index in
    let rest : List Name = drop (i + 1) index in
    let steps : left ≡ a ∷ rest = drop_more index i a c.loop-name-test.true ∙ ap (λ (b : Name). b ∷ rest) (sym c.name-item.is) in
    let typed : (a, type_or s a) ≡ (d.name, d.dtype) = ap₂ (λ (b : Name) (t : DataType). (b, t)) (sym by.name) (sym by.dtype) in
    let shown : record { name = a; values = values a } ≡ column_shown d = ap₂ (λ (b : Name) (vs : List Value). record { name = b; values = vs }) (sym by.name) (sym by.values) in
    let once : HasDistinctNames (columns_at s index) = subst AreDistinct (sym (names-at s index)) (distinct-differ index c.requires) in
    let left-typed = ap (columns_at s) steps ∙ ap (λ x. x ∷ columns_at s rest) typed in
    let left-shown = ap (λ (names : List Name). table_columns names values) steps ∙ ap (λ (x : Column). x ∷ table_columns rest values) shown in
    rw c.in_ok-with_column.ensures.after (
      put-shown c.loop-name.made d (columns_at s left) (columns_at s rest) (columns_at s index) once c.loop-name.invariant.1 left-typed
          (table_columns left values) (table_columns rest values) (table_columns index values) c.loop-name.invariant.0 left-shown,
      put-types c.loop-name.made d (columns_at s left) (columns_at s rest) (columns_at s index) once c.loop-name.invariant.1 left-typed,
    )
