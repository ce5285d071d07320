use Rattle.std.proofs.Common.{◌≡◌, map, take}
use Rattle.plan_expr.specs.Exprs.{all_named_at}
use Rattle.plan_frame.specs.Grouping.{gathered}
use Rattle.plan_frame.specs.Made.{made_schema}
use Rattle.plan_check.proofs.group_by.with_gathered.Given as goal

abbrev pub invariant-loop-agg : goal.invariant-loop-agg
invariant-loop-agg l = l.made ≡ made_schema l.initial.made (map gathered (all_named_at l.ex (take l.agg-index l.aggs))) l.schema
