use Rattle.std.proofs.Common.{◌≡◌, None, take}
use Rattle.std.specs.Option.{option_copied}
use Rattle.plan_hive.specs.Parts.{part_names}
use Rattle.plan_hive.specs.Hive.{first_fault, name_fault, place}
use Rattle.plan_hive.proofs.hive.values_of.Given as goal

-- the columns so far are there, and none has a fault
abbrev pub invariant-loop-name : goal.invariant-loop-name
invariant-loop-name l =
    (l.values ≡ take l.name-index l.parts)
    × (first_fault (λ k name. name_fault (place l.at) (option_copied l.schema) l.firsts (take k (part_names l.parts)) name) 0 (take l.name-index (part_names l.parts)) ≡ None)
