-- The names up to here are called so on their own sides.
use Rattle.std.proofs.Common.{◌≡◌, map, take}
use Rattle.plan_collapse.specs.KeysAt.{own_in}
use Rattle.plan_collapse.proofs.copies.own_names.Given as goal

abbrev pub invariant-loop-name : goal.invariant-loop-name
invariant-loop-name l = l.own ≡ map (own_in l.origins) (take l.name-index l.names)
