use Rattle.std.proofs.Common.{take}
use Rattle.plan_core.specs.Columns.{names_of}
use Rattle.plan_prune_names.specs.Among.{AreAmong}
use Rattle.plan_prune_names.proofs.among.are_all_among.Given as goal

-- the columns up to here are among the names
abbrev pub invariant-loop-i : goal.invariant-loop-i
invariant-loop-i l = AreAmong l.names (names_of (take l.i l.columns.types))
