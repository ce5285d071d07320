use Rattle.std.proofs.Common.{◌∙◌, true, false, arith, sym}
use Rattle.plan_core.specs.declared.data_type.DataType.{DataType}
use Rattle.plan_expr.specs.Leaves.{Name}
use Rattle.plan_join.specs.Naming.{key_columns}
use Rattle.plan_join.proofs.OriginLemmas.{past, right-from}
use Rattle.plan_join.proofs.origin.right_place.Goals.{in-Some+else-is_given, in_default}
use Rattle.plan_join.proofs.origin.right_place.Goals as goal

pub returns-then-is_given-clause-some : goal.returns-then-is_given-clause-some
returns-then-is_given-clause-some c =
    let lk = key_columns c.args.ex.now c.args.left_on.now in
    let rk = key_columns c.args.ex.now c.args.right_on.now in
    let one : Name × DataType = (c.in-Some.own.now, c.in-Some.field-0-1.now) in (
      one,
      c.in-Some.ensures.found,
      c.loop-place.invariant ∙ right-from c.args.args.now lk rk c.args.left.now c.args.right.now c.args.name.now c.loop-place.place one true c.in-Some.ensures.found (sym c.is_given.ensures ∙ c.if-is_given.true),
    )

pub loop-place-preserved : goal.loop-place-preserved
loop-place-preserved c =
    let lk = key_columns c.args.ex.now c.args.left_on.now in
    let rk = key_columns c.args.ex.now c.args.right_on.now in
    elim c.match-get_at_index.branch [
      | in-Some+else-is_given w ↦ c.loop-place.invariant ∙ right-from c.args.args.now lk rk c.args.left.now c.args.right.now c.args.name.now c.loop-place.place (w.in-Some.own.now, w.in-Some.field-0-1.now) false w.in-Some.ensures.found (sym w.is_given.ensures ∙ w.if-is_given.false)
      | in_default w ↦ absurd (past c.args.right.now c.loop-place.place w.in_default.ensures.none (omega (arith, c.loop-place-test.true, c.len-place-end.ensures.value)))
    ]
