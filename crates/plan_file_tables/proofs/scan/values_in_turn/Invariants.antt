use Rattle.std.proofs.Common.{◌≡◌, take}
use Rattle.plan_file_scan.specs.FileFrames.{values_in_turn}
use Rattle.plan_value.specs.Shown.{values_of}
use Rattle.plan_file_tables.specs.Parts.{parts_shown}
use Rattle.plan_file_tables.proofs.scan.values_in_turn.Given as goal

-- the values of the sources up to here
abbrev pub invariant-loop-part : goal.invariant-loop-part
invariant-loop-part l = values_of l.values ≡ values_in_turn l.path (parts_shown (take l.part-index l.parts)) l.name
