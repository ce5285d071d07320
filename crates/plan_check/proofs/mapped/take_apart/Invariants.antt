use Rattle.std.proofs.Common.{◌≡◌, take}
use Rattle.plan_frame.specs.Reshaped.{exploded_columns}
use Rattle.plan_check.proofs.mapped.take_apart.Given as goal

-- the columns, with the lists of the names up to here taken apart
abbrev pub invariant-loop-name : goal.invariant-loop-name
invariant-loop-name l = l.columns ≡ exploded_columns (take l.name-index l.names) l.initial.columns
