use Rattle.std.proofs.Common.{◌≡◌, true, take}
use Rattle.std.specs.List.{list_all}
use Rattle.plan_prune_parts.proofs.KeyTests.{is_free_key}
use Rattle.plan_prune_parts.proofs.arguments.are_unasked.Given as goal

-- the keys up to here are columns whose names in the join aren't asked
abbrev pub invariant-loop-key : goal.invariant-loop-key
invariant-loop-key l = list_all (is_free_key l.args l.asked l.left l.ex) (take l.key-index l.right_on) ≡ true
