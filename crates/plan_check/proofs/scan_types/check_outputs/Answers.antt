use Rattle.std.proofs.Common.{◌≡◌, ◌∙◌, ◌&&◌, sym, arith, true, false, rules, ℕ, List, Bool}
use Rattle.plan_core.specs.declared.data_type.DataType.{DataType}
use Rattle.plan_core.specs.declared.error.PolarsError.TheVariants.{SchemaMismatch}
use Rattle.plan_meaning.specs.Checks.{is_column}
use Rattle.plan_meaning.specs.Typing.{is_number_or_read}
use Rattle.plan_files.specs.FileColumns.{hive_columns, plain_columns, row_columns}
use Rattle.plan_schema.proofs.CheckLemmas.{left-next, left-bad, past}
use Rattle.plan_check.proofs.scan_types.check_outputs.Goals.{in-Some+else-not-is_put_out, in_default}
use Rattle.plan_check.proofs.scan_types.check_outputs.Goals as goal

pub returns-then-not-is_put_out : goal.returns-then-not-is_put_out
returns-then-not-is_put_out c =
    let test : List ℕ × DataType → Bool = λ d. is_column c.args.file.now d && is_number_or_read (row_columns c.args.row.now) c.args.told.now (plain_columns c.args.reader.now (hive_columns c.args.hive.now)) d.0 in
    let bad : test (c.in-Some.name.now, c.in-Some.dtype.now) ≡ false = sym c.is_put_out.ensures ∙ search rules in
    rw c.at.ensures (left-bad c.args.node SchemaMismatch 1 test c.args.output.now c.loop-i.i (c.in-Some.name.now, c.in-Some.dtype.now) c.loop-i.invariant c.in-Some.ensures.found bad)

pub loop-i-preserved : goal.loop-i-preserved
loop-i-preserved c =
    elim c.match-get_at_index.branch [
      | in-Some+else-not-is_put_out w ↦
          (let test : List ℕ × DataType → Bool = λ d. is_column c.args.file.now d && is_number_or_read (row_columns c.args.row.now) c.args.told.now (plain_columns c.args.reader.now (hive_columns c.args.hive.now)) d.0 in
          let good : test (w.in-Some.name.now, w.in-Some.dtype.now) ≡ true = sym w.is_put_out.ensures ∙ search rules in
          left-next c.args.node SchemaMismatch 1 test c.args.output.now c.loop-i.i (w.in-Some.name.now, w.in-Some.dtype.now) c.loop-i.invariant w.in-Some.ensures.found good)
      | in_default w ↦ absurd (past c.args.output.now c.loop-i.i w.in_default.ensures.none (omega (arith, c.loop-i-test.true, c.len-i-end.ensures.value)))
    ]
