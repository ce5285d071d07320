use Rattle.std.proofs.Common.{◌≡◌, ◌∙◌, ◌+◌, ℕ, All, List, [], ◌∷◌, Some, ap, ap₂, arith, get_or, map, refl, subst, sym, take}
use Rattle.std.proofs.lemmas.Option.{slice_get-get_or}
use Rattle.std.proofs.lemmas.Result.{IfOk-weaker}
use Rattle.plan_core.specs.declared.arena.Node.{Node}
use Rattle.plan_expr.specs.Exprs.{Expr, expr_at}
use Rattle.plan_expr.specs.Leaves.{Name, leaves}
use Rattle.plan_expr.specs.Operands.{IsExpr}
use Rattle.plan_expr.specs.declared.aexpr.AExpr.TheVariants.{Column, Literal, Alias, BinaryExpr, Ternary, Agg, Function, Window, Len}
use Rattle.plan_expr.specs.declared.agg.Aggregate.{Aggregate}
use Rattle.plan_expr.proofs.ExprLemmas.{expr_down, expr_open, exprs_down}
use Rattle.plan_table.specs.declared.value.AnyValue.{AnyValue}
use Rattle.plan_frame.specs.Aggregates.{aggregated}
use Rattle.plan_frame.specs.Frames.{Agree, column_or, picked, rows_at}
use Rattle.plan_frame.specs.Meaning.{Cell, called, cell_values, chosen, many, one, only_value, operated, spread, val, windowed}
use Rattle.plan_value.specs.declared.exprs.Values.{Values}
use Rattle.plan_value.specs.Cells.{cell_of, cells_at, cells_of}
use Rattle.plan_value.specs.Groups.{AreNumbered}
use Rattle.plan_value.specs.Shown.{frame_of, values_of}
use Rattle.plan_value.proofs.EvaluationLemmas.{above, above-operands, below-above, called-more, cells-next, keys_down, over-next}
use Rattle.plan_value.proofs.WindowLemmas.{windowed-is}
use Rattle.plan_value.proofs.exprs.+evaluation.Goals as goal

pub call-returns-in_default : goal.call-returns-in_default
call-returns-in_default t c = called-more c.args.function c.args.ex.now c.args.inputs.now (frame_of c.args.table.now) c.in_default.len_at_least

pub evaluate_all-evaluate_expr-requires : goal.evaluate_all-evaluate_expr-requires
evaluate_all-evaluate_expr-requires t c =
    let i = c.loop-node.node-index in
    let nodes = c.args.nodes.now in
    let d : Node = record { 0 = 0 } in
    let lt = c.loop-node-test.true in
    let low = below-above c.args.ex.now nodes i (get_or nodes i d) (slice_get-get_or nodes i d lt) in
    (omega (arith, low, c.decreases), c.requires i d lt)

pub evaluate_all-loop-node-preserved : goal.evaluate_all-loop-node-preserved
evaluate_all-loop-node-preserved t c =
    let i = c.loop-node.node-index in
    let nodes = c.args.nodes.now in
    let d : Node = record { 0 = 0 } in
    subst (λ (vs : List Values). cells_of vs ≡ cells_at c.args.ex.now (take (i + 1) nodes) (frame_of c.args.table.now)) (sym c.in_ok-push.ensures.pushed)
    (cells-next c.args.ex.now nodes (frame_of c.args.table.now) i (get_or nodes i d) d c.loop-node.all c.in_ok-evaluate_expr.field-0 c.loop-node-test.true refl c.in_ok-evaluate_expr.ensures c.loop-node.invariant)

pub evaluate_expr-evaluate_expr-requires : goal.evaluate_expr-evaluate_expr-requires
evaluate_expr-evaluate_expr-requires t c =
    let e = c.get.ensures.entry ∙ ap Some c.in-Alias.is in
    let d = expr_down c.args.ex.now c.args.node c.in-Alias.input (Alias c.in-Alias.input c.in-Alias.field-1) 0 c.requires e refl in
    (omega (arith, d.0, c.decreases), d.1)

pub evaluate_expr-evaluate_expr-requires-in-BinaryExpr : goal.evaluate_expr-evaluate_expr-requires-in-BinaryExpr
evaluate_expr-evaluate_expr-requires-in-BinaryExpr t c =
    let e = c.get.ensures.entry ∙ ap Some c.in-BinaryExpr.is in
    let d = expr_down c.args.ex.now c.args.node c.in-BinaryExpr.left (BinaryExpr c.in-BinaryExpr.left c.in-BinaryExpr.op c.in-BinaryExpr.right) 0 c.requires e refl in
    (omega (arith, d.0, c.decreases), d.1)

pub evaluate_expr-evaluate_expr-requires-in-BinaryExpr-2 : goal.evaluate_expr-evaluate_expr-requires-in-BinaryExpr-2
evaluate_expr-evaluate_expr-requires-in-BinaryExpr-2 t c =
    let e = c.get.ensures.entry ∙ ap Some c.in-BinaryExpr.is in
    let d = expr_down c.args.ex.now c.args.node c.in-BinaryExpr.right (BinaryExpr c.in-BinaryExpr.left c.in-BinaryExpr.op c.in-BinaryExpr.right) 1 c.requires e refl in
    (omega (arith, d.0, c.decreases), d.1)

pub choice-evaluate_expr-requires : goal.choice-evaluate_expr-requires
choice-evaluate_expr-requires t c =
    let low = below-above c.args.ex.now (c.args.truthy ∷ c.args.falsy ∷ c.args.predicate ∷ []) 0 c.args.truthy refl in
    (omega (arith, low, c.decreases), c.requires 0 c.args.truthy (omega arith))

pub choice-evaluate_expr-requires-2 : goal.choice-evaluate_expr-requires-2
choice-evaluate_expr-requires-2 t c =
    let low = below-above c.args.ex.now (c.args.truthy ∷ c.args.falsy ∷ c.args.predicate ∷ []) 1 c.args.falsy refl in
    (omega (arith, low, c.decreases), c.requires 1 c.args.falsy (omega arith))

pub choice-evaluate_expr-requires-3 : goal.choice-evaluate_expr-requires-3
choice-evaluate_expr-requires-3 t c =
    let low = below-above c.args.ex.now (c.args.truthy ∷ c.args.falsy ∷ c.args.predicate ∷ []) 2 c.args.predicate refl in
    (omega (arith, low, c.decreases), c.requires 2 c.args.predicate (omega arith))

pub evaluate_expr-choice-requires : goal.evaluate_expr-choice-requires
evaluate_expr-choice-requires t c =
    let e = c.get.ensures.entry ∙ ap Some c.in-Ternary.is in
    let p = Ternary c.in-Ternary.predicate c.in-Ternary.truthy c.in-Ternary.falsy in
    let low = above-operands c.args.ex.now c.args.node p c.requires e in
    (omega (arith, low, c.decreases), exprs_down c.args.ex.now c.args.node p c.requires e)

pub choice-returns : goal.choice-returns
choice-returns t c =
    let f = frame_of c.args.table.now in
    let ex = c.args.ex.now in
    IfOk-weaker c.chosen-values.result _ _ (λ vs h. h
    ∙ ap₂ (λ (x y : Cell). chosen f.height x y (cell_of c.in_ok-predicate.predicate)) c.in_ok-truthy.ensures c.in_ok-falsy.ensures
    ∙ ap (chosen f.height (val (expr_at ex c.args.truthy) f) (val (expr_at ex c.args.falsy) f)) c.in_ok-predicate.ensures) c.chosen-values.ensures

pub evaluate_expr-evaluate_expr-requires-in-Agg : goal.evaluate_expr-evaluate_expr-requires-in-Agg
evaluate_expr-evaluate_expr-requires-in-Agg t c =
    let e = c.get.ensures.entry ∙ ap Some c.in-Agg.is in
    let d = expr_down c.args.ex.now c.args.node c.input.result (Agg c.in-Agg.agg) 0 c.requires e (ap Some (sym c.input.ensures)) in
    (omega (arith, d.0, c.decreases), d.1)

pub evaluate_expr-call-requires : goal.evaluate_expr-call-requires
evaluate_expr-call-requires t c =
    let e = c.get.ensures.entry ∙ ap Some c.in-Function.is in
    let p = Function c.in-Function.input c.in-Function.function c.in-Function.options in
    let low = above-operands c.args.ex.now c.args.node p c.requires e in
    let same = ap (above c.args.ex.now) c.as_slice.ensures in
    (omega (arith, low, same, c.decreases), subst (All (IsExpr c.args.ex.now)) (sym c.as_slice.ensures) (exprs_down c.args.ex.now c.args.node p c.requires e))

pub evaluate_expr-window-requires : goal.evaluate_expr-window-requires
evaluate_expr-window-requires t c =
    let e = c.get.ensures.entry ∙ ap Some c.in-Window.is in
    let p = Window c.in-Window.function c.in-Window.partition_by in
    let low = above-operands c.args.ex.now c.args.node p c.requires e in
    let same = ap (λ (l : List Node). above c.args.ex.now (c.in-Window.function ∷ l)) c.as_slice-in-Window.ensures in
    let d = expr_down c.args.ex.now c.args.node c.in-Window.function p 0 c.requires e refl in
    let keys = keys_down c.args.ex.now c.args.node c.in-Window.function c.in-Window.partition_by c.requires e in
    (omega (arith, low, same, c.decreases), (d.1, subst (All (IsExpr c.args.ex.now)) (sym c.as_slice-in-Window.ensures) keys))

pub evaluate_expr-returns-in-Column : goal.evaluate_expr-returns-in-Column
evaluate_expr-returns-in-Column t c =
    IfOk-weaker c.column_values.result _ _ (λ vs h. h ∙ ap (λ (a : Name). many (column_or (frame_of c.args.table.now) a)) c.as_str.ensures
    ∙ ap (λ (x : Expr). val x (frame_of c.args.table.now)) (sym (expr_open c.args.ex.now c.args.node (Column c.in-Column.name) c.requires (c.get.ensures.entry ∙ ap Some c.in-Column.is)))) c.column_values.ensures

pub evaluate_expr-returns-in-Literal : goal.evaluate_expr-returns-in-Literal
evaluate_expr-returns-in-Literal t c =
    IfOk-weaker c.literal_values.result _ _ (λ vs h. h
    ∙ ap (λ (x : Expr). val x (frame_of c.args.table.now)) (sym (expr_open c.args.ex.now c.args.node (Literal c.in-Literal.value) c.requires (c.get.ensures.entry ∙ ap Some c.in-Literal.is)))) c.literal_values.ensures

pub evaluate_expr-returns-in-Alias : goal.evaluate_expr-returns-in-Alias
evaluate_expr-returns-in-Alias t c =
    IfOk-weaker c.evaluate_expr.result _ _ (λ vs h. h
    ∙ ap (λ (x : Expr). val x (frame_of c.args.table.now)) (sym (expr_open c.args.ex.now c.args.node (Alias c.in-Alias.input c.in-Alias.field-1) c.requires (c.get.ensures.entry ∙ ap Some c.in-Alias.is)))) c.evaluate_expr.ensures

pub evaluate_expr-returns-in_ok-right-in-BinaryExpr : goal.evaluate_expr-returns-in_ok-right-in-BinaryExpr
evaluate_expr-returns-in_ok-right-in-BinaryExpr t c =
    IfOk-weaker c.spread.result _ _ (λ vs h. h
    ∙ ap₂ (spread (operated c.in-BinaryExpr.op)) c.in_ok-left-in-BinaryExpr.ensures c.in_ok-right-in-BinaryExpr.ensures
    ∙ ap (λ (x : Expr). val x (frame_of c.args.table.now)) (sym (expr_open c.args.ex.now c.args.node (BinaryExpr c.in-BinaryExpr.left c.in-BinaryExpr.op c.in-BinaryExpr.right) c.requires (c.get.ensures.entry ∙ ap Some c.in-BinaryExpr.is)))) c.spread.ensures

pub evaluate_expr-returns-in-Ternary : goal.evaluate_expr-returns-in-Ternary
evaluate_expr-returns-in-Ternary t c =
    IfOk-weaker c.choice.result _ _ (λ vs h. h
    ∙ ap (λ (x : Expr). val x (frame_of c.args.table.now)) (sym (expr_open c.args.ex.now c.args.node (Ternary c.in-Ternary.predicate c.in-Ternary.truthy c.in-Ternary.falsy) c.requires (c.get.ensures.entry ∙ ap Some c.in-Ternary.is)))) c.choice.ensures

pub evaluate_expr-returns-in_ok-input-in-Agg : goal.evaluate_expr-returns-in_ok-input-in-Agg
evaluate_expr-returns-in_ok-input-in-Agg t c =
    let f = frame_of c.args.table.now in
    IfOk-weaker c.aggregate_values-values.result _ _ (λ vs h. h
    ∙ ap one (ap₂ (λ (op : Aggregate) (x : Cell). aggregated op (cell_values x)) c.aggregate.ensures (c.in_ok-input-in-Agg.ensures ∙ ap (λ (n : Node). val (expr_at c.args.ex.now n) f) c.input.ensures))
    ∙ ap (λ (x : Expr). val x (frame_of c.args.table.now)) (sym (expr_open c.args.ex.now c.args.node (Agg c.in-Agg.agg) c.requires (c.get.ensures.entry ∙ ap Some c.in-Agg.is)))) c.aggregate_values-values.ensures

pub evaluate_expr-returns-in-Function : goal.evaluate_expr-returns-in-Function
evaluate_expr-returns-in-Function t c =
    IfOk-weaker c.call.result _ _ (λ vs h. h
    ∙ ap (λ (l : List Node). called c.in-Function.function (cells_at c.args.ex.now l (frame_of c.args.table.now))) c.as_slice.ensures
    ∙ ap (λ (x : Expr). val x (frame_of c.args.table.now)) (sym (expr_open c.args.ex.now c.args.node (Function c.in-Function.input c.in-Function.function c.in-Function.options) c.requires (c.get.ensures.entry ∙ ap Some c.in-Function.is)))) c.call.ensures

pub evaluate_expr-returns-in-Window : goal.evaluate_expr-returns-in-Window
evaluate_expr-returns-in-Window t c =
    let f = frame_of c.args.table.now in
    IfOk-weaker c.window.result _ _ (λ vs h. h
    ∙ ap (λ (l : List Node). windowed (val (expr_at c.args.ex.now c.in-Window.function)) (cells_at c.args.ex.now l f) f) c.as_slice-in-Window.ensures
    ∙ ap (λ (x : Expr). val x (frame_of c.args.table.now)) (sym (expr_open c.args.ex.now c.args.node (Window c.in-Window.function c.in-Window.partition_by) c.requires (c.get.ensures.entry ∙ ap Some c.in-Window.is)))) c.window.ensures

pub evaluate_expr-returns-in-Len : goal.evaluate_expr-returns-in-Len
evaluate_expr-returns-in-Len t c =
    ap one c.counted.ensures
    ∙ ap (λ (x : Expr). val x (frame_of c.args.table.now)) (sym (expr_open c.args.ex.now c.args.node (Len) c.requires (c.get.ensures.entry ∙ ap Some c.in-Len.is)))

pub evaluate_over-loop-rows-preserved : goal.evaluate_over-loop-rows-preserved
evaluate_over-loop-rows-preserved t c =
    let f = frame_of c.args.table.now in
    let e = expr_at c.args.ex.now c.args.node in
    let part = frame_of c.in_ok-part.part in
    let rows = c.rows-item.result in
    let i = c.loop-rows.rows-index in
    let same : Agree (leaves e) part (rows_at rows f) =
    subst (λ (names : List Name). Agree names part (rows_at rows f)) (c.as_slice-in-loop-rows.ensures ∙ c.in_ok-names.ensures)
    (subst (λ (l : List ℕ). Agree c.as_slice-in-loop-rows.result.now part (rows_at l f)) c.as_slice.ensures c.in_ok-part.ensures) in
    subst (λ (vs : List AnyValue). values_of vs ≡ map (λ (l : List ℕ). only_value (val e (rows_at l f))) (take (i + 1) c.args.parts.now)) (sym c.in_ok-push.ensures.pushed)
    (over-next e f part c.args.parts.now i rows c.loop-rows.values c.only_value.result c.loop-rows-test.true c.rows-item.is same
    (c.only_value.ensures ∙ ap only_value c.in_ok-evaluate_expr.ensures) c.loop-rows.invariant)

pub window-returns : goal.window-returns
window-returns t c =
    let f = frame_of c.args.table.now in
    let m = val (expr_at c.args.ex.now c.args.function) in
    let numbers = c.in_ok-groups.groups.numbers in
    let keys = c.in_ok-keys.keys in
    let parts = c.in_ok-parts.parts.items in
    let grouped : AreNumbered (cells_of keys) f.height c.in_ok-groups.groups.count numbers = subst (λ (ks : List Values). AreNumbered (cells_of ks) f.height c.in_ok-groups.groups.count numbers) c.as_slice.ensures c.in_ok-groups.ensures in
    ap many (c.in_ok-picked.ensures ∙ ap₂ (λ (rows : List ℕ) (vs : List AnyValue). picked rows (values_of vs)) c.as_slice-4.ensures c.as_slice-3.ensures)
    ∙ windowed-is m (cells_of keys) f c.in_ok-groups.groups.count numbers parts (values_of c.in_ok-values.values) grouped c.in_ok-parts.ensures.count c.in_ok-parts.ensures.rows
    (c.in_ok-values.ensures ∙ ap (map (λ (rows : List ℕ). only_value (m (rows_at rows f)))) c.as_slice-2.ensures.value)
    ∙ ap (λ (ks : List Cell). windowed m ks f) c.in_ok-keys.ensures
