use Rattle.std.proofs.Common.{◌≡◌, ◌∙◌, ap, sym, arith, rules, Some, None}
use Rattle.plan_core.specs.Columns.{Columns, type_of, with_type}
use Rattle.plan_expr.specs.Leaves.{Name}
use Rattle.plan_pruned.proofs.ListSteps.{typed-next, typed-skip, not_past}
use Rattle.plan_pruned.proofs.columns.typed_columns.Goals.{in-Some+in-Some-get+in_ok-new+in_ok-with_column, in-Some+in_default-get, in_default}
use Rattle.plan_pruned.proofs.columns.typed_columns.Goals as goal

pub loop-i-preserved : goal.loop-i-preserved
loop-i-preserved c =
    elim c.match-get_at_index.branch [
      | in-Some+in-Some-get+in_ok-new+in_ok-with_column w ↦
          (let is : type_of c.args.schema.now w.in-Some.name.now ≡ Some w.in-Some-get.dtype.now = sym w.in-Some-get.ensures in
          w.columns-is ∙ w.in_ok-with_column.ensures.after
          ∙ ap (λ (a : Name). with_type c.loop-i.columns a w.in-Some-get.dtype.now) w.in_ok-new.ensures
          ∙ ap (λ (l : Columns). with_type l w.in-Some.name.now w.in-Some-get.dtype.now) c.loop-i.invariant
          ∙ typed-next c.args.schema.now c.args.names.now c.loop-i.i w.in-Some.name.now w.in-Some-get.dtype.now c.len-i-end.ensures.distinct w.in-Some.ensures.found is)
      | in-Some+in_default-get w ↦
          (let is : type_of c.args.schema.now w.in-Some.name.now ≡ None = search rules in
          w.columns-is ∙ c.loop-i.invariant ∙ typed-skip c.args.schema.now c.args.names.now c.loop-i.i w.in-Some.name.now w.in-Some.ensures.found is)
      | in_default w ↦ absurd (not_past c.args.names.now c.loop-i.i w.in_default.ensures.none (omega (arith, c.loop-i-test.true, c.len-i-end.ensures.value)))
    ]
