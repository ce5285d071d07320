use Rattle.std.proofs.Common.{arith}
use Rattle.std.proofs.lemmas.Grind.{common_steps}
use Rattle.plan_files.specs.FileColumns.{hive_columns}
use Rattle.plan_check.proofs.ReadLemmas.{found_read}
use Rattle.plan_check.proofs.scan_types.is_read.Goals as goal

pub returns-then-is_hive : goal.returns-then-is_hive
returns-then-is_hive c = grind (arith, common_steps, found_read c.args.told.now c.args.reader.now (hive_columns c.args.hive.now) c.args.name.now)

pub returns-else-is_hive : goal.returns-else-is_hive
returns-else-is_hive c = grind (arith, common_steps, found_read c.args.told.now c.args.reader.now (hive_columns c.args.hive.now) c.args.name.now)
