use Rattle.std.proofs.Common.{◌≡◌, ◌∙◌, ◌++◌, List, [], ◌∷◌, ap, ap₂}
use Rattle.std.proofs.lemmas.List.{map-append}
use Rattle.plan_core.specs.Columns.{Columns}
use Rattle.plan_core.specs.declared.data_type.DataType.{DataType}
use Rattle.plan_core.specs.declared.data_type.DataType.TheVariants.{String}
use Rattle.plan_expr.specs.Leaves.{Name}
use Rattle.plan_frame.specs.Frames.{Column, table_columns}
use Rattle.plan_meaning.specs.Functions.{all_differ, value_name, variable_name}
use Rattle.plan_frame.specs.Reshaped.{columns_at, names_down, repeated}
use Rattle.plan_frame.specs.Values.{Value}
use Rattle.plan_table.specs.declared.column.Column.{Column as Typed}
use Rattle.plan_table.specs.Tables.{types_of, with_column}
use Rattle.plan_value.specs.Shown.{column_shown, columns_shown, frame_of, schema_of}
use Rattle.plan_function_tables.proofs.UnpivotLemmas.{differ-before, put-own}
use Rattle.plan_function_tables.proofs.unpivot.columns_over.Goals as goal

pub repeated_columns-requires : goal.repeated_columns-requires
repeated_columns-requires c =
    let args = c.args.args.now in
    ap all_differ c.as_slice.ensures ∙ differ-before args.index (variable_name args ∷ value_name args ∷ []) c.requires

pub returns-clause-shown : goal.returns-clause-shown
returns-clause-shown c =
    let args = c.args.args.now in
    let g = frame_of c.args.table.now in
    let names = c.args.names.now in
    let done = c.in_ok-columns.columns in
    let first = c.in_ok-variable_column.field-0 in
    let second = c.in_ok-value_column.field-0 in
    let one = c.in_ok-variable_column.ensures in
    let two = c.in_ok-value_column.ensures in
    let last = put-own args (schema_of c.args.table.now) done first second c.requires (c.in_ok-columns.ensures.types ∙ ap (columns_at (schema_of c.args.table.now)) c.as_slice.ensures) one.name two.name in
    ap columns_shown (c.in_ok-with_column-2.ensures.after ∙ ap (λ (cs : List Typed). with_column cs second) c.in_ok-with_column.ensures.after ∙ last)
    ∙ map-append column_shown done (first ∷ second ∷ [])
    ∙ ap (λ (cs : List Column). cs ++ column_shown first ∷ column_shown second ∷ []) (c.in_ok-columns.ensures.shown ∙ ap (λ (index : List Name). table_columns index (repeated names g)) c.as_slice.ensures)
    ∙ ap₂ (λ (a : Name) (vs : List Value). table_columns args.index (repeated names g) ++ record { name = a; values = vs } ∷ column_shown second ∷ []) one.name one.values
    ∙ ap₂ (λ (a : Name) (vs : List Value). table_columns args.index (repeated names g) ++ record { name = variable_name args; values = names_down names g } ∷ record { name = a; values = vs } ∷ []) two.name two.values

pub returns-clause-types : goal.returns-clause-types
returns-clause-types c =
    let args = c.args.args.now in
    let s = schema_of c.args.table.now in
    let done = c.in_ok-columns.columns in
    let first = c.in_ok-variable_column.field-0 in
    let second = c.in_ok-value_column.field-0 in
    let one = c.in_ok-variable_column.ensures in
    let two = c.in_ok-value_column.ensures in
    let repeats : types_of done ≡ columns_at s args.index = c.in_ok-columns.ensures.types ∙ ap (columns_at s) c.as_slice.ensures in
    ap types_of (c.in_ok-with_column-2.ensures.after ∙ ap (λ (cs : List Typed). with_column cs second) c.in_ok-with_column.ensures.after ∙ put-own args s done first second c.requires repeats one.name two.name)
    ∙ map-append (λ (x : Typed). (x.name, x.dtype)) done (first ∷ second ∷ [])
    ∙ ap (λ (cs : Columns). cs ++ types_of (first ∷ second ∷ [])) repeats
    ∙ ap₂ (λ (a : Name) (d : DataType). columns_at s args.index ++ (a, d) ∷ types_of (second ∷ [])) one.name one.dtype
    ∙ ap₂ (λ (a : Name) (d : DataType). columns_at s args.index ++ (variable_name args, String) ∷ (a, d) ∷ []) two.name two.dtype
