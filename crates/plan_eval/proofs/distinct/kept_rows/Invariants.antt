use Rattle.std.proofs.Common.{◌≡◌, take}
use Rattle.plan_eval.specs.Distinct.{kept}
use Rattle.plan_eval.proofs.distinct.kept_rows.Given as goal

-- the rows that are kept of the parts up to here
abbrev pub invariant-loop-part : goal.invariant-loop-part
invariant-loop-part l = l.rows.items ≡ kept l.keep (take l.part-index l.parts)
