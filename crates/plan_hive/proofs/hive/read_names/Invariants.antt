use Rattle.std.proofs.Common.{◌≡◌, None, take, map}
use Rattle.std.specs.Option.{option_copied}
use Rattle.plan_hive.specs.Parts.{hive_parts}
use Rattle.plan_hive.specs.Hive.{first_fault, path_fault}
use Rattle.plan_hive.proofs.hive.read_names.Given as goal

-- the columns of the paths so far are there, and no path has a fault
abbrev pub invariant-loop-i : goal.invariant-loop-i
invariant-loop-i l =
    (l.all ≡ map (hive_parts l.start) (take l.i l.paths))
    × (first_fault (path_fault l.start (option_copied l.schema) l.firsts) 0 (take l.i l.paths) ≡ None)
