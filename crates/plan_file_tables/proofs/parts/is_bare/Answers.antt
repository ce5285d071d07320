use Rattle.std.proofs.Common.{arith}
use Rattle.plan_file_tables.proofs.SameLemmas.{bare-table}
use Rattle.plan_file_tables.proofs.parts.is_bare.Goals as goal

pub returns : goal.returns
returns c empty = bare-table c.args.table.now (omega arith) (c.are_empty.ensures empty)
