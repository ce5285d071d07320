use Rattle.std.proofs.Common.{◌≡◌, arith, true, false, rules}
use Rattle.plan_core.specs.declared.error.PolarsError.TheVariants.{SchemaMismatch}
use Rattle.plan_meaning.specs.Checks.{is_column}
use Rattle.plan_schema.proofs.CheckLemmas.{left-next, left-bad, past}
use Rattle.plan_check_parts.proofs.columns.check_columns_typed.Goals.{in-Some+else-not-is_column, in_default}
use Rattle.plan_check_parts.proofs.columns.check_columns_typed.Goals as goal

pub returns-then-not-is_column : goal.returns-then-not-is_column
returns-then-not-is_column c =
    let bad : is_column c.args.schema.now (c.in-Some.name.now, c.in-Some.dtype.now) ≡ false = search rules in
    rw c.at.ensures (left-bad c.args.node SchemaMismatch 1 (is_column c.args.schema.now) c.args.columns.now c.loop-i.i (c.in-Some.name.now, c.in-Some.dtype.now) c.loop-i.invariant c.in-Some.ensures.found bad)

pub loop-i-preserved : goal.loop-i-preserved
loop-i-preserved c =
    elim c.match-get_at_index.branch [
      | in-Some+else-not-is_column w ↦
          (let good : is_column c.args.schema.now (w.in-Some.name.now, w.in-Some.dtype.now) ≡ true = search rules in
          left-next c.args.node SchemaMismatch 1 (is_column c.args.schema.now) c.args.columns.now c.loop-i.i (w.in-Some.name.now, w.in-Some.dtype.now) c.loop-i.invariant w.in-Some.ensures.found good)
      | in_default w ↦ absurd (past c.args.columns.now c.loop-i.i w.in_default.ensures.none (omega (arith, c.loop-i-test.true, c.len-i-end.ensures.value)))
    ]
