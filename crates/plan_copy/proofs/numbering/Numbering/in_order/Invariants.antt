use Rattle.std.proofs.Common.{◌≡◌, length, map, take}
use Rattle.std.specs.List.{range_with_len}
use Rattle.plan_tree.specs.Stands.{numbers}
use Rattle.plan_ir.specs.Moved.{new_number}
use Rattle.plan_copy.proofs.numbering.Numbering.in_order.Given as goal

abbrev pub invariant-loop-i : goal.invariant-loop-i
invariant-loop-i l = record {
  full : length l.table.items ≡ l.size;
  numbered : numbers (map (new_number l.table.items) (take l.i l.listed)) ≡ range_with_len 0 l.i;
}
