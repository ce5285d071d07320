use Rattle.std.proofs.Common.{◌≡◌, [], take}
use Rattle.plan_core.specs.Names.{with_names}
use Rattle.plan_hive.specs.Parts.{part_names}
use Rattle.plan_hive.proofs.hive.names_of.Given as goal

-- the names are those of the columns so far, each once
abbrev pub invariant-loop-name : goal.invariant-loop-name
invariant-loop-name l = l.names ≡ with_names [] (part_names (take l.name-index l.parts))
