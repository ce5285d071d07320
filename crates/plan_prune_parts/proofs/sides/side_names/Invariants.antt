use Rattle.std.proofs.Common.{◌≡◌, take}
use Rattle.plan_expr.specs.Exprs.{all_named_at}
use Rattle.plan_meaning.specs.JoinAsked.{side_asked}
use Rattle.plan_prune_parts.specs.Origins.{origin_in}
use Rattle.plan_prune_parts.proofs.sides.side_names.Given as goal

-- what the keys ask, and the needed names up to here
abbrev pub invariant-loop-name : goal.invariant-loop-name
invariant-loop-name l = l.names ≡ side_asked l.side (all_named_at l.ex l.keys) (origin_in l.origins) l.columns (take l.name-index l.needed)
