use Rattle.std.proofs.Common.{◌≡◌, take}
use Rattle.plan_frame.specs.Reshaped.{columns_at}
use Rattle.plan_file_tables.proofs.output.columns_at.Given as goal

abbrev pub invariant-loop-name : goal.invariant-loop-name
invariant-loop-name l = l.columns ≡ columns_at l.file (take l.name-index l.names)
