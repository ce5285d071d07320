use Rattle.std.proofs.Common.{◌≡◌, ◌∙◌, ℕ, List, length, ap, ap₂}
use Rattle.std.specs.List.{filter as only_where}
use Rattle.plan_core.specs.Names.{has}
use Rattle.plan_expr.specs.Leaves.{Name}
use Rattle.plan_frame.specs.Frames.{Column}
use Rattle.plan_frame.specs.Reshaped.{exploded_columns, exploded_rows}
use Rattle.plan_frame.proofs.ReshapedLemmas.{apart-once}
use Rattle.plan_table.specs.declared.column.Column.{Column as Typed}
use Rattle.plan_value.specs.Shown.{columns_shown, frame_of, schema_of}
use Rattle.plan_function_tables.specs.Explode.{borrowed_columns, columns_over, longest, rows_by}
use Rattle.plan_function_tables.proofs.ExplodeLemmas.{columns-once, lists-once, rows-given}
use Rattle.plan_function_tables.proofs.explode.exploded.Goals as goal

pub returns-clause-frame : goal.returns-clause-frame
returns-clause-frame c =
    let names = c.args.names.now in
    let t = c.args.table.now in
    let all = columns_shown t.columns in
    let lists : borrowed_columns c.as_slice.result.now ≡ only_where (λ (d : Typed). has names d.name) t.columns =
    ap borrowed_columns c.as_slice.ensures
    ∙ c.in_ok-lists.ensures.columns
    ∙ ap (λ (apart : List Name). only_where (λ (d : Typed). has apart d.name) t.columns) c.in_ok-apart.ensures
    ∙ lists-once names t.columns
    in
    let rows : c.as_slice-rows.result.now ≡ exploded_rows names (frame_of t) =
    c.as_slice-rows.ensures.value
    ∙ c.in_ok-rows.ensures ∙ ap (λ (cs : List Typed). rows_by (longest cs) t.height) lists ∙ rows-given names t c.in_ok-lists.ensures.distinct
    in
    let columns : columns_shown c.in_ok-exploded_columns.field-0 ≡ columns_over names (exploded_rows names (frame_of t)) all =
    c.in_ok-exploded_columns.ensures.shown
    ∙ ap₂ (λ (apart : List Name) (ps : List (ℕ × ℕ)). columns_over apart ps all) c.in_ok-apart.ensures rows
    ∙ columns-once names (exploded_rows names (frame_of t)) all
    in
    ap₂ (λ (h : ℕ) (cs : List Column). record { height = h; columns = cs }) (ap length rows) columns

pub returns-clause-types : goal.returns-clause-types
returns-clause-types c =
    let s = schema_of c.args.table.now in
    c.in_ok-exploded_columns.ensures.types ∙ ap (λ (apart : List Name). exploded_columns apart s) c.in_ok-apart.ensures ∙ apart-once c.args.names.now s
