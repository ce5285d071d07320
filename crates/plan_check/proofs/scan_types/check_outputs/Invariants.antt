use Rattle.std.proofs.Common.{◌&&◌}
use Rattle.plan_core.specs.declared.error.PolarsError.TheVariants.{SchemaMismatch}
use Rattle.plan_files.specs.FileColumns.{hive_columns, plain_columns, row_columns}
use Rattle.plan_meaning.specs.Checks.{is_column}
use Rattle.plan_meaning.specs.Typing.{is_number_or_read}
use Rattle.plan_schema.proofs.CheckLemmas.{Left}
use Rattle.plan_check.proofs.scan_types.check_outputs.Given as goal

abbrev pub invariant-loop-i : goal.invariant-loop-i
invariant-loop-i l = Left l.node SchemaMismatch 1 (λ c. is_column l.file c && is_number_or_read (row_columns l.row) l.told (plain_columns l.reader (hive_columns l.hive)) c.0) l.output l.i
