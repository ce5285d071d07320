use Rattle.std.proofs.Common.{◌≡◌, ◌∙◌, ◌∷◌, All, List, [], ap, arith, is_some, length, map, subst, true}
use Rattle.std.proofs.lemmas.List.Elements.{All-tail}
use Rattle.plan_core.specs.Columns.{Columns, type_of, with_types}
use Rattle.plan_expr.specs.declared.expr_ir.ExprIR.{ExprIR}
use Rattle.plan_expr.specs.Naming.{name_of}
use Rattle.plan_frame.specs.Frames.{Column, with_columns}
use Rattle.plan_frame.specs.Meaning.{value_at}
use Rattle.plan_frame.specs.Values.{Value}
use Rattle.plan_table.specs.Tables.{types_of}
use Rattle.plan_value.specs.declared.exprs.Values.{Values}
use Rattle.plan_value.specs.Cells.{cell_of, cells_of}
use Rattle.plan_value.specs.Shown.{columns_shown}
use Rattle.plan_function_tables.specs.Given.{stored_column}
use Rattle.plan_eval.specs.Groups.{columns_in}
use Rattle.plan_eval.proofs.ColumnLemmas.{put-first, put-type}
use Rattle.plan_eval.proofs.group_by.key_columns.Goals as goal

pub loop-key-preserved : goal.loop-key-preserved
loop-key-preserved c =
    let rows = c.args.rows.now in
    let typed = stored_column c.args.schema.now in
    let key = c.in-Some.key.now in
    let own = c.in-Some.own.now in
    let keys = c.next.new.self.a.rest.now in
    let values = c.next.new.self.b.rest.now in
    let d = c.in_ok-named_column.field-0 in
    let done = c.loop-key.columns in
    let inv = c.loop-key.invariant in
    let steps = c.in-Some.ensures.steps in
    let all : List Column = with_columns [] (columns_in rows c.args.keys.now (cells_of c.args.values.now)) in
    let types : Columns = with_types [] (map typed c.args.keys.now) in
    let column : Column = record { name = name_of key.output_name; values = map (value_at (cell_of own)) rows } in
    let shown = c.in_ok-named_column.ensures.shown ∙ ap (λ (vs : List Value). record { name = name_of key.output_name; values = vs }) c.in_ok-own.ensures in
    let few = ap (λ (es : List ExprIR). length es) steps.0 in
    let many = ap (λ (vs : List Values). length vs) steps.1 in
    rw c.in_ok-with_column.ensures.after (record {
      shown = put-first done d column (columns_in rows keys (cells_of values)) all shown
          (subst (λ (vs : List Values). with_columns (columns_shown done) (columns_in rows (key ∷ keys) (cells_of vs)) ≡ all) steps.1
          (subst (λ (es : List ExprIR). with_columns (columns_shown done) (columns_in rows es (cells_of c.loop-key.key-iterator.b.rest.now)) ≡ all) steps.0 inv.shown));
      types = put-type done d (typed key) (map typed keys) types c.in_ok-named_column.ensures.typed
          (subst (λ (es : List ExprIR). with_types (types_of done) (map typed es) ≡ types) steps.0 inv.types);
      each = omega (arith, few, many, inv.each);
      named = All-tail (λ (e : ExprIR). is_some (type_of c.args.schema.now (name_of e.output_name)) ≡ true) key keys
          (subst (All (λ (e : ExprIR). is_some (type_of c.args.schema.now (name_of e.output_name)) ≡ true)) steps.0 inv.named);
    })
