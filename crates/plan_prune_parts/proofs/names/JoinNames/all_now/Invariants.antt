use Rattle.std.proofs.Common.{◌≡◌, map, take}
use Rattle.plan_prune_parts.specs.Left.{name_now}
use Rattle.plan_prune_parts.proofs.names.JoinNames.all_now.Given as goal

-- the names up to here are called so
abbrev pub invariant-loop-name : goal.invariant-loop-name
invariant-loop-name l = l.now ≡ map (name_now l.self) (take l.name-index l.names)
