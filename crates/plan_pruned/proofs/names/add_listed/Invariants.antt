use Rattle.std.proofs.Common.{◌≡◌, take}
use Rattle.plan_core.specs.Names.{with_names}
use Rattle.plan_pruned.proofs.names.add_listed.Given as goal

abbrev pub invariant-loop-name : goal.invariant-loop-name
invariant-loop-name l = l.names ≡ with_names l.initial.names (take l.name-index l.others)
