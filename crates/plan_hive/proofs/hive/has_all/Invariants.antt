use Rattle.std.proofs.Common.{◌≡◌, true, take}
use Rattle.std.specs.List.{list_all}
use Rattle.plan_core.specs.Names.{has}
use Rattle.plan_hive.specs.Parts.{part_names}
use Rattle.plan_hive.proofs.hive.has_all.Given as goal

-- each name so far is there
abbrev pub invariant-loop-i : goal.invariant-loop-i
invariant-loop-i l = list_all (has (part_names l.values)) (take l.i l.firsts) ≡ true
