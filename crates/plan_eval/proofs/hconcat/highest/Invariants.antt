use Rattle.std.proofs.Common.{◌≡◌, map, take}
use Rattle.plan_frame.specs.Frames.{highest}
use Rattle.plan_value.specs.Shown.{frame_of}
use Rattle.plan_eval.proofs.hconcat.highest.Given as goal

-- the height of the highest table up to here
abbrev pub invariant-loop-table : goal.invariant-loop-table
invariant-loop-table l = l.height ≡ highest (map frame_of (take l.table-index l.tables))
