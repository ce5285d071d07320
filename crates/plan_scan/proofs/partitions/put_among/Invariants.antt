use Rattle.std.proofs.Common.{◌≡◌, ◌++◌, drop}
use Rattle.plan_scan.specs.Stats.{named_among, places_among}
use Rattle.plan_scan.proofs.partitions.put_among.Given as goal

-- the columns so far and their places, and then those of what is left, are all
abbrev pub invariant-loop-i : goal.invariant-loop-i
invariant-loop-i l =
    (l.schema ++ named_among l.wanted (drop l.i l.columns) ≡ named_among l.wanted l.columns)
    × (l.places ++ places_among l.wanted l.i (drop l.i l.columns) ≡ places_among l.wanted 0 l.columns)
