use Rattle.std.proofs.Common.{◌≡◌, [], take}
use Rattle.plan_core.specs.Names.{with_names}
use Rattle.plan_scan.proofs.partitions.once.Given as goal

-- the names so far are there, each once
abbrev pub invariant-loop-name : goal.invariant-loop-name
invariant-loop-name l = l.kept ≡ with_names [] (take l.name-index l.names)
