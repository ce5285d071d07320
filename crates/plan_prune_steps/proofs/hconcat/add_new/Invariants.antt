use Rattle.std.proofs.Common.{◌≡◌, fold, take}
use Rattle.plan_frame.specs.Beside.{with_new}
use Rattle.plan_prune_steps.proofs.hconcat.add_new.Given as goal

-- the columns up to here whose names none has are added
abbrev pub invariant-loop-i : goal.invariant-loop-i
invariant-loop-i l = l.columns ≡ fold with_new l.initial.columns (take l.i l.more)
