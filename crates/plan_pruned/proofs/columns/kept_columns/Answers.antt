use Rattle.std.proofs.Common.{◌≡◌, ◌∙◌, ap, sym, arith, true, false}
use Rattle.plan_core.specs.Columns.{Columns, with_type}
use Rattle.plan_core.specs.Names.{has}
use Rattle.plan_expr.specs.Leaves.{Name}
use Rattle.plan_pruned.proofs.ListSteps.{filter-next, filter-skip, not_past}
use Rattle.plan_pruned.proofs.columns.kept_columns.Goals.{in-Some+then-contains+in_ok-new+in_ok-with_column, in-Some+else-contains, in_default}
use Rattle.plan_pruned.proofs.columns.kept_columns.Goals as goal

pub loop-i-preserved : goal.loop-i-preserved
loop-i-preserved c =
    elim c.match-get_at_index.branch [
      | in-Some+then-contains+in_ok-new+in_ok-with_column w ↦
          (let good : has c.args.asked.now w.in-Some.name.now ≡ true = sym w.contains.ensures ∙ w.if-contains.true in
          w.kept-is ∙ w.in_ok-with_column.ensures.after
          ∙ ap (λ (a : Name). with_type c.loop-i.kept a w.in-Some.dtype.now) w.in_ok-new.ensures
          ∙ ap (λ (l : Columns). with_type l w.in-Some.name.now w.in-Some.dtype.now) c.loop-i.invariant
          ∙ filter-next (λ d. has c.args.asked.now d.0) c.args.columns c.loop-i.i w.in-Some.name.now w.in-Some.dtype.now c.len-i-end.ensures.distinct w.in-Some.ensures.found good)
      | in-Some+else-contains w ↦
          (let bad : has c.args.asked.now w.in-Some.name.now ≡ false = sym w.contains.ensures ∙ w.if-contains.false in
          w.kept-is ∙ c.loop-i.invariant ∙ filter-skip (λ d. has c.args.asked.now d.0) c.args.columns c.loop-i.i w.in-Some.name.now w.in-Some.dtype.now w.in-Some.ensures.found bad)
      | in_default w ↦ absurd (not_past c.args.columns c.loop-i.i w.in_default.ensures.none (omega (arith, c.loop-i-test.true, c.len-i-end.ensures.value)))
    ]
