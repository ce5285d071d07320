use Rattle.std.proofs.Common.{take}
use Rattle.plan_prune_names.specs.Known.{type_in}
use Rattle.plan_prune_names.specs.Renaming.{AreFree}
use Rattle.plan_prune_names.proofs.renaming.are_free.Given as goal

-- the names up to here are free
abbrev pub invariant-loop-i : goal.invariant-loop-i
invariant-loop-i l = AreFree l.existing (take l.i l.new) (type_in l.columns)
