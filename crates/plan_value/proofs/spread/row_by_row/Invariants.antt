use Rattle.std.proofs.Common.{◌≡◌, ◌++◌}
use Rattle.plan_frame.specs.Meaning.{zip_by}
use Rattle.plan_value.specs.Pairs.{paired}
use Rattle.plan_value.specs.Shown.{values_of}
use Rattle.plan_value.proofs.spread.row_by_row.Given as goal

-- what is made, and then what the operator gives for the rows that are left
abbrev pub invariant-loop-left : goal.invariant-loop-left
invariant-loop-left l = values_of l.values ++ zip_by (paired l.pairing) (values_of l.left-iterator.a.rest.now) (values_of l.left-iterator.b.rest.now) ≡ zip_by (paired l.pairing) (values_of l.lefts) (values_of l.rights)
