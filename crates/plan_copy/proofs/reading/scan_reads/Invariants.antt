use Rattle.std.proofs.Common.{◌≡◌, take}
use Rattle.plan_ir.specs.Reads.{scan_reads_of}
use Rattle.plan_copy.proofs.reading.scan_reads.Given as goal

abbrev pub invariant-loop-i : goal.invariant-loop-i
invariant-loop-i l = l.lists ≡ scan_reads_of (take l.i l.plan.lp)
