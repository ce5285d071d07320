use Rattle.std.proofs.Common.{◌≡◌, map, take}
use Rattle.plan_meaning.specs.Functions.{renamed}
use Rattle.plan_prune_names.proofs.ordered.renamed.Given as goal

-- what the names up to here become
abbrev pub invariant-loop-name : goal.invariant-loop-name
invariant-loop-name l = l.now ≡ map (renamed l.existing l.new) (take l.name-index l.names)
