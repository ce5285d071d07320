use Rattle.std.proofs.Common.{◌≡◌, ◌∙◌, ◌+◌, List, ℕ, ap, sym, subst, map, take}
use Rattle.plan_expr.specs.Exprs.{expr_at}
use Rattle.plan_frame.specs.Frames.{rows_at}
use Rattle.plan_frame.specs.Grouping.{gathered_expr}
use Rattle.plan_frame.specs.Meaning.{only_value, val}
use Rattle.plan_frame.specs.Values.{Value}
use Rattle.plan_table.specs.declared.value.AnyValue.{AnyValue}
use Rattle.plan_value.specs.Shown.{frame_of, values_of}
use Rattle.plan_value.proofs.EvaluationLemmas.{over-more}
use Rattle.plan_value.proofs.gathered.evaluate_groups.Goals as goal

pub evaluate_group-requires-clause-names : goal.evaluate_group-requires-clause-names
evaluate_group-requires-clause-names c = c.as_slice-in-loop-rows.ensures ∙ c.in_ok-names.ensures

pub loop-rows-preserved : goal.loop-rows-preserved
loop-rows-preserved c =
    let f = frame_of c.args.table.now in
    let whole = gathered_expr (expr_at c.args.ex.now c.args.node) in
    let make : List ℕ → Value = λ (l : List ℕ). only_value (val whole (rows_at l f)) in
    let i = c.loop-rows.rows-index in
    subst (λ (vs : List AnyValue). values_of vs ≡ map make (take (i + 1) c.args.parts.now)) (sym c.in_ok-push.ensures.pushed)
    (over-more make c.args.parts.now i c.rows-item.result c.loop-rows.values c.in_ok-evaluate_group.field-0 c.loop-rows-test.true c.rows-item.is
    (c.in_ok-evaluate_group.ensures ∙ ap make c.as_slice.ensures) c.loop-rows.invariant)
