-- Numbers of expressions in the place of others.
use Rattle.std.specs.Prelude.{◌≤◌, List, ◌++◌, length}
use Rattle.plan_core.specs.declared.arena.Node.{Node}
use Rattle.plan_tree.specs.Stands.{Trees, StandsOnce}
use Rattle.plan_expr.specs.declared.aexpr.AExpr.{AExpr}
use Rattle.plan_expr.specs.Operands.{expr_shape}
use Rattle.plan_prune_parts.specs.Left.{StandFor}

-- expressions stand over these numbers, no number twice
abbrev pub StandExprs : List AExpr → List Node → Type 0
StandExprs ex ns = (e : Trees AExpr) × StandsOnce expr_shape ex ns e

-- where expressions stand over the old numbers among others in an arena, expressions stand over the new ones in their place in the arena that it grew to; together they reach only entries that were reached before, and new ones
pub record TakePlace (ex grown : List AExpr) (new old : List Node) : Type 0 where
  pub grows : length ex ≤ length grown
  pub stand : (before after : List Node) → StandFor ex grown (before ++ (new ++ after)) (before ++ (old ++ after))
