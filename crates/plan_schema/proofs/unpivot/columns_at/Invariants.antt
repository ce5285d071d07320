use Rattle.std.proofs.Common.{◌≡◌, true, take}
use Rattle.plan_meaning.specs.Functions.{all_differ}
use Rattle.plan_frame.specs.Reshaped.{columns_at}
use Rattle.plan_schema.proofs.unpivot.columns_at.Given as goal

-- what is made are the columns of the names so far, of which none stands twice
abbrev pub invariant-loop-name : goal.invariant-loop-name
invariant-loop-name l = (l.made ≡ columns_at l.schema (take l.name-index l.names)) × (all_differ (take l.name-index l.names) ≡ true)
