use Rattle.std.proofs.Common.{◌≡◌, ◌++◌}
use Rattle.plan_frame.specs.Reshaped.{exploded_columns}
use Rattle.plan_schema.proofs.explode.exploded.Given as goal

-- what is made, and what will be made of the columns that are left, are all columns
abbrev pub invariant-loop-name : goal.invariant-loop-name
invariant-loop-name l = l.made ++ exploded_columns l.apart l.name-iterator ≡ exploded_columns l.apart l.schema
