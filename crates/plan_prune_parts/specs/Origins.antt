-- The columns of the sides of a join, by the names under which it puts them out.
use Rattle.std.specs.Prelude.{Option, Some, option_map, if◌then◌else◌}
use Rattle.plan_core.specs.Columns.{names_of}
use Rattle.plan_core.specs.Names.{has}
use Rattle.plan_expr.specs.Leaves.{Name}
use Rattle.plan_join.specs.declared.origin.Side.{Side}
use Rattle.plan_join.specs.declared.origin.Side.TheVariants as sides
use Rattle.plan_prune_parts.specs.declared.origins.Origins.{Origins}
use Rattle.plan_meaning.specs.Functions.{name_in}

-- the column that is put out under a name, if one is: its side, and its name there; a left one goes first
abbrev pub origin_in : Origins → Name → Option (Side × Name)
origin_in o a = if has (names_of o.left) a then Some (sides.Left, a) else option_map (λ (b : Name). (sides.Right, b)) (name_in o.right a)
