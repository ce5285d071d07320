use Rattle.std.proofs.Common.{◌≡◌, take, fold, if◌then◌else◌}
use Rattle.plan_frame.specs.Aggregates.{greater, lesser}
use Rattle.plan_frame.specs.Values.{null}
use Rattle.plan_value.specs.Shown.{value_of, values_of}
use Rattle.plan_value.proofs.AggregateLemmas.{step}
use Rattle.plan_value.proofs.aggregates.best.Given as goal

-- the best of the values up to here
abbrev pub invariant-loop-value : goal.invariant-loop-value
invariant-loop-value l = value_of l.best ≡ fold (step (if l.greatest then greater else lesser)) null (values_of (take l.value-index l.values))
