use Rattle.std.proofs.Common.{◌≡◌, ◌∙◌, ◌∷◌, List, cond, ap, ap₂, sym, subst}
use Rattle.plan_core.specs.Columns.{Columns, HasDistinctNames}
use Rattle.plan_core.specs.Names.{has, AreDistinct}
use Rattle.plan_core.specs.declared.data_type.DataType.{DataType}
use Rattle.plan_expr.specs.Leaves.{Name}
use Rattle.plan_frame.specs.Frames.{Column}
use Rattle.plan_frame.specs.Reshaped.{exploded_columns, item_type, exploded_values}
use Rattle.plan_frame.specs.Values.{Value}
use Rattle.plan_frame.proofs.ReshapedLemmas.{names-exploded}
use Rattle.plan_table.specs.declared.column.Column.{Column as Typed}
use Rattle.plan_table.specs.Tables.{types_of}
use Rattle.plan_value.specs.Shown.{column_shown, columns_shown, values_of}
use Rattle.plan_value.proofs.ColumnLemmas.{put-types, put-shown}
use Rattle.plan_function_tables.specs.Explode.{columns_over}
use Rattle.plan_function_tables.proofs.explode.exploded_columns.Goals as goal

pub loop-column-preserved : goal.loop-column-preserved
loop-column-preserved c =
    let apart = c.args.apart.now in
    let rows = c.args.rows.now in
    let all = c.args.columns.now in
    let own = c.in-Some.column.now in
    let left = c.loop-column.column-iterator in
    let rest = c.next.new.self in
    let d = c.in_ok-exploded_column.field-0 in
    let by = c.in_ok-exploded_column.ensures in
    let typed : (own.name, cond (has apart own.name) (item_type own.dtype) own.dtype) ≡ (d.name, d.dtype) = ap₂ (λ (a : Name) (t : DataType). (a, t)) (sym by.name) (sym by.dtype) in
    let shown : record { name = own.name; values = exploded_values (has apart own.name) rows (values_of own.values) } ≡ column_shown d = ap₂ (λ (a : Name) (vs : List Value). record { name = a; values = vs }) (sym by.name) (sym by.values) in
    let types : List Typed → Columns = λ (cs : List Typed). exploded_columns apart (types_of cs) in
    let columns : List Typed → List Column = λ (cs : List Typed). columns_over apart rows (columns_shown cs) in
    let once : HasDistinctNames (types all) = subst AreDistinct (sym (names-exploded apart (types_of all))) c.iter-column-items.ensures.distinct in
    let left-typed = ap types c.in-Some.ensures.steps ∙ ap (λ x. x ∷ types rest) typed in
    let left-shown = ap columns c.in-Some.ensures.steps ∙ ap (λ (x : Column). x ∷ columns rest) shown in
    rw c.in_ok-with_column.ensures.after (
      put-shown c.loop-column.made d (types left) (types rest) (types all) once c.loop-column.invariant.1 left-typed (columns left) (columns rest) (columns all) c.loop-column.invariant.0 left-shown,
      put-types c.loop-column.made d (types left) (types rest) (types all) once c.loop-column.invariant.1 left-typed,
    )
