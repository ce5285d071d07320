use Rattle.std.proofs.Common.{◌≡◌, take}
use Rattle.plan_value.specs.Groups.{key_at}
use Rattle.plan_value.proofs.groups.key_in.Given as goal

-- the values of the keys up to here
abbrev pub invariant-loop-values : goal.invariant-loop-values
invariant-loop-values l = l.key ≡ key_at (take l.values-index l.keys) l.row
