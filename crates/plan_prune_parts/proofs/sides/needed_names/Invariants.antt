use Rattle.std.proofs.Common.{◌≡◌, ◌++◌, take}
use Rattle.plan_prune_parts.proofs.sides.needed_names.Given as goal

-- the names that the condition reads, and then the asked ones up to here
abbrev pub invariant-loop-name : goal.invariant-loop-name
invariant-loop-name l = l.names ≡ l.initial.names ++ take l.name-index l.name-items
