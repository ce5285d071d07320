use Rattle.std.proofs.Common.{◌≡◌, map, take}
use Rattle.plan_file_scan.specs.Left.{left_part}
use Rattle.plan_file_tables.proofs.hive.each_left.Given as goal

abbrev pub invariant-loop-part : goal.invariant-loop-part
invariant-loop-part l = l.left ≡ map (left_part l.asked) (take l.part-index l.parts)
