use Rattle.std.proofs.Common.{◌∙◌, arith, unwrap_or, ap}
use Rattle.plan_core.specs.Columns.{type_of}
use Rattle.plan_core.specs.declared.data_type.DataType.TheVariants.{Int64}
use Rattle.plan_expr.specs.Leaves.{Name}
use Rattle.plan_pruned.proofs.ListSteps.{not_past}
use Rattle.plan_prune_parts.specs.Left.{name_now}
use Rattle.plan_prune_parts.proofs.ListSteps.{named-next}
use Rattle.plan_prune_parts.proofs.top.named_columns.Goals.{in-Some+in_ok-now+in_ok-new+in_ok-with_column, in_default}
use Rattle.plan_prune_parts.proofs.top.named_columns.Goals as goal

pub loop-i-preserved : goal.loop-i-preserved
loop-i-preserved c =
    elim c.match-get_at_index.branch [
      | in-Some+in_ok-now+in_ok-new+in_ok-with_column w ↦
          w.named-is ∙ w.in_ok-with_column.ensures.after
          ∙ named-next (name_now c.args.names.now) c.args.columns.now c.loop-i.named c.args.asked.now c.loop-i.i w.in-Some.name.now w.in_ok-new.field-0 w.type_now.result c.len-i-end.ensures.distinct w.in-Some.ensures.found c.loop-i.invariant w.in_ok-new.ensures
          (w.type_now.ensures ∙ ap (λ (a : Name). unwrap_or (type_of c.args.columns.now a) Int64) (w.as_str.ensures ∙ w.in_ok-now.ensures))
      | in_default w ↦ absurd (not_past c.args.asked.now c.loop-i.i w.in_default.ensures.none (omega (arith, c.loop-i-test.true, c.len-i-end.ensures.value)))
    ]
