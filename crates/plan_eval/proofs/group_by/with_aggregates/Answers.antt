use Rattle.std.proofs.Common.{◌≡◌, ◌∙◌, ◌+◌, ◌∷◌, List, drop, map, ap, sym, subst}
use Rattle.std.proofs.lemmas.List.{drop_more}
use Rattle.plan_core.specs.Columns.{with_types}
use Rattle.plan_expr.specs.declared.expr_ir.ExprIR.{ExprIR}
use Rattle.plan_expr.specs.Exprs.{all_named_at, named_at}
use Rattle.plan_frame.specs.Frames.{Column, with_columns}
use Rattle.plan_frame.specs.Values.{Value}
use Rattle.plan_frame.proofs.ScalarExprs.{stands_here}
use Rattle.plan_table.specs.Tables.{types_of}
use Rattle.plan_value.specs.Shown.{columns_shown, frame_of}
use Rattle.plan_function_tables.specs.Given.{stored_column}
use Rattle.plan_eval.specs.Groups.{group_column}
use Rattle.plan_eval.proofs.ColumnLemmas.{put-first, put-type}
use Rattle.plan_eval.proofs.group_by.with_aggregates.Goals as goal

pub evaluate_groups-requires : goal.evaluate_groups-requires
evaluate_groups-requires c = stands_here c.args.ex.now c.args.aggs.now c.loop-agg.agg-index c.agg-item.result c.requires.stand c.loop-agg-test.true c.agg-item.is

pub loop-agg-preserved : goal.loop-agg-preserved
loop-agg-preserved c =
    let aggs = c.args.aggs.now in
    let i = c.loop-agg.agg-index in
    let agg = c.agg-item.result in
    let d = c.in_ok-named_column.field-0 in
    let done = c.loop-agg.columns in
    let column : ExprIR → Column = λ (e : ExprIR). group_column c.args.parts.now (frame_of c.args.table.now) (named_at c.args.ex.now e) in
    let typed = stored_column c.args.schema.now in
    let left : List ExprIR → List Column = λ (es : List ExprIR). map (group_column c.args.parts.now (frame_of c.args.table.now)) (all_named_at c.args.ex.now es) in
    let rest : List ExprIR = drop (i + 1) aggs in
    let steps : drop i aggs ≡ agg ∷ rest = drop_more aggs i agg c.loop-agg-test.true ∙ ap (λ (e : ExprIR). e ∷ rest) (sym c.agg-item.is) in
    let shown = c.in_ok-named_column.ensures.shown ∙ ap (λ (vs : List Value). record { name = (column agg).name; values = vs }) c.in_ok-values.ensures in
    rw c.in_ok-with_column.ensures.after (
      put-first done d (column agg) (left rest) (with_columns (columns_shown c.args.base) (left aggs)) shown
          (subst (λ (es : List ExprIR). with_columns (columns_shown done) (left es) ≡ with_columns (columns_shown c.args.base) (left aggs)) steps c.loop-agg.invariant.0),
      put-type done d (typed agg) (map typed rest) (with_types (types_of c.args.base) (map typed aggs)) c.in_ok-named_column.ensures.typed
          (subst (λ (es : List ExprIR). with_types (types_of done) (map typed es) ≡ with_types (types_of c.args.base) (map typed aggs)) steps c.loop-agg.invariant.1),
    )
