use Rattle.std.proofs.Common.{◌≡◌, length, take}
use Rattle.std.specs.List.{range_with_len}
use Rattle.plan_eval.proofs.picked.are_all.Given as goal

-- the rows up to here are those of these numbers
abbrev pub invariant-loop-place : goal.invariant-loop-place
invariant-loop-place l = (length l.rows ≡ l.height) × (take l.place l.rows ≡ range_with_len 0 l.place)
