use Rattle.std.proofs.Common.{◌≡◌, arith, true, false, rules}
use Rattle.plan_core.specs.declared.error.PolarsError.TheVariants.{SchemaFieldNotFound}
use Rattle.plan_meaning.specs.Checks.{is_known}
use Rattle.plan_schema.proofs.CheckLemmas.{left-next, left-bad, past}
use Rattle.plan_check_parts.proofs.columns.check_columns_known.Goals.{in-Some+else-is_none, in_default}
use Rattle.plan_check_parts.proofs.columns.check_columns_known.Goals as goal

pub returns-then-is_none : goal.returns-then-is_none
returns-then-is_none c =
    let bad : is_known c.args.schema.now c.in-Some.name.now ≡ false = search rules in
    rw c.at.ensures (left-bad c.args.node SchemaFieldNotFound 1 (λ d. is_known c.args.schema.now d.0) c.args.columns.now c.loop-i.i (c.in-Some.name.now, c.in-Some.field-0-1.now) c.loop-i.invariant c.in-Some.ensures.found bad)

pub loop-i-preserved : goal.loop-i-preserved
loop-i-preserved c =
    elim c.match-get_at_index.branch [
      | in-Some+else-is_none w ↦
          (let good : is_known c.args.schema.now w.in-Some.name.now ≡ true = search rules in
          left-next c.args.node SchemaFieldNotFound 1 (λ d. is_known c.args.schema.now d.0) c.args.columns.now c.loop-i.i (w.in-Some.name.now, w.in-Some.field-0-1.now) c.loop-i.invariant w.in-Some.ensures.found good)
      | in_default w ↦ absurd (past c.args.columns.now c.loop-i.i w.in_default.ensures.none (omega (arith, c.loop-i-test.true, c.len-i-end.ensures.value)))
    ]
