use Rattle.std.proofs.Common.{not}
use Rattle.plan_core.specs.declared.error.PolarsError.TheVariants.{SchemaMismatch}
use Rattle.plan_core.specs.Columns.{names_of}
use Rattle.plan_core.specs.Names.{has}
use Rattle.plan_files.specs.FileColumns.{hive_columns}
use Rattle.plan_schema.proofs.CheckLemmas.{Left}
use Rattle.plan_check.proofs.scan_types.check_own.Given as goal

abbrev pub invariant-loop-i : goal.invariant-loop-i
invariant-loop-i l = Left l.node SchemaMismatch l.place (λ a. not (has (names_of (hive_columns l.hive)) a)) l.told l.i
