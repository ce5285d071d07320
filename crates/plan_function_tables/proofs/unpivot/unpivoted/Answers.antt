use Rattle.std.proofs.Common.{◌≡◌, ◌∙◌, ◌++◌, ◌*◌, ℕ, List, [], ◌∷◌, length, ap, ap₂, sym}
use Rattle.plan_core.specs.Columns.{names_of}
use Rattle.plan_core.specs.declared.data_type.DataType.TheVariants.{String}
use Rattle.plan_expr.specs.Leaves.{Name}
use Rattle.plan_frame.specs.Frames.{Column, Frame, table_columns}
use Rattle.plan_meaning.specs.Functions.{first_type, value_name, value_names, variable_name}
use Rattle.plan_frame.specs.Reshaped.{columns_at, names_down, repeated, values_down}
use Rattle.plan_value.specs.Shown.{frame_of, schema_of}
use Rattle.plan_function_tables.proofs.UnpivotLemmas.{names-shown}
use Rattle.plan_function_tables.proofs.unpivot.unpivoted.Goals as goal

pub returns-clause-frame : goal.returns-clause-frame
returns-clause-frame c =
    let args = c.args.args.now in
    let t = c.args.table.now in
    let g = frame_of t in
    let names : List Name = c.as_slice-names.result.now in
    let told : names ≡ value_names args (names_of (schema_of t)) = c.as_slice-names.ensures ∙ c.in_ok-names.ensures in
    let whole : List Name → Frame = λ (names : List Name). record {
      height = length names * g.height;
      columns = table_columns args.index (repeated names g) ++ record { name = variable_name args; values = names_down names g } ∷ record { name = value_name args; values = values_down names g } ∷ [];
    } in
    let height : c.in_ok-height_of.field-0 ≡ (whole names).height = c.in_ok-height_of.ensures in
    ap₂ (λ (h : ℕ) (cs : List Column). record { height = h; columns = cs }) height c.in_ok-columns_over.ensures.shown
    ∙ ap whole (told ∙ ap (value_names args) (sym (names-shown t.columns)))

pub returns-clause-types : goal.returns-clause-types
returns-clause-types c =
    let args = c.args.args.now in
    let s = schema_of c.args.table.now in
    let told : c.as_slice-names.result.now ≡ value_names args (names_of s) = c.as_slice-names.ensures ∙ c.in_ok-names.ensures in
    c.in_ok-columns_over.ensures.types
    ∙ ap (λ (names : List Name). columns_at s args.index ++ (variable_name args, String) ∷ (value_name args, first_type s names) ∷ []) told
