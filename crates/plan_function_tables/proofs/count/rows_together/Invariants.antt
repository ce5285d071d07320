use Rattle.std.proofs.Common.{◌≡◌, ◌%◌, ◌^◌, take}
use Rattle.plan_meaning.specs.Mapped.{rows_together}
use Rattle.plan_file_tables.specs.Parts.{frames_found}
use Rattle.plan_function_tables.proofs.count.rows_together.Given as goal

-- how many rows the tables up to here have together, cut to 64 bits
abbrev pub invariant-loop-table : goal.invariant-loop-table
invariant-loop-table l = l.rows ≡ rows_together (frames_found (take l.table-index l.tables)) % 2 ^ 64
