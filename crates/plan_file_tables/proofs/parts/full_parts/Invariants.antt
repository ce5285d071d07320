use Rattle.std.proofs.Common.{take}
use Rattle.plan_file_tables.specs.Parts.{GiveSame, parts_shown}
use Rattle.plan_file_tables.proofs.parts.full_parts.Given as goal

-- the sources so far give what all up to here give
abbrev pub invariant-loop-part : goal.invariant-loop-part
invariant-loop-part l = GiveSame (parts_shown l.full) (parts_shown (take l.part-index l.parts))
