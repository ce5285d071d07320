use Rattle.std.proofs.Common.{◌≡◌, take}
use Rattle.plan_scan.specs.Stats.{stats_at}
use Rattle.plan_scan.proofs.partitions.copies_at.Given as goal

-- the columns at the places so far are there
abbrev pub invariant-loop-i : goal.invariant-loop-i
invariant-loop-i l = l.kept ≡ stats_at l.stats (take l.i-index l.places)
