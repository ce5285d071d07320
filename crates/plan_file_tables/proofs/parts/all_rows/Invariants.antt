use Rattle.std.proofs.Common.{◌≡◌, take}
use Rattle.plan_file_scan.specs.FileFrames.{rows_in_turn}
use Rattle.plan_file_tables.specs.Parts.{parts_shown}
use Rattle.plan_file_tables.proofs.parts.all_rows.Given as goal

-- the rows of the sources up to here
abbrev pub invariant-loop-part : goal.invariant-loop-part
invariant-loop-part l = l.rows ≡ rows_in_turn (parts_shown (take l.part-index l.parts))
