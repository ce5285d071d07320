use Rattle.std.proofs.Common.{◌≡◌, take}
use Rattle.plan_file_tables.proofs.names.listed.Given as goal

abbrev pub invariant-loop-i : goal.invariant-loop-i
invariant-loop-i l = l.list ≡ take l.i l.names
