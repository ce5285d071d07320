-- Plans in two arenas, one of nodes and one of expressions, that become others.
use Rattle.std.specs.Prelude.{List, [], ◌∷◌}
use Rattle.plan_core.specs.declared.arena.Node.{Node}
use Rattle.plan_tree.specs.Stands.{Apart, Rewrites, StandsOnce, Trees}
use Rattle.plan_expr.specs.declared.aexpr.AExpr.{AExpr}
use Rattle.plan_expr.specs.Operands.{expr_shape}
use Rattle.plan_ir.specs.declared.ir.IR.{IR}
use Rattle.plan_ir.specs.Parts.{plan_shape, roots_in}

-- trees of nodes over trees of expressions became others over others, each in the place of the old ones
pub record AllBecome (lp new : List IR) (ex grown : List AExpr) (ns : List Node) (f : Trees IR) (e : Trees AExpr) : Type 0 where
  pub nodes : Trees IR
  pub exprs : Trees AExpr
  pub places : Rewrites plan_shape lp new ns f nodes
  pub under : Rewrites expr_shape ex grown (roots_in nodes) e exprs

-- the same of the tree over one number
abbrev pub Becomes : (lp new : List IR) (ex grown : List AExpr) → Node → Trees IR → Trees AExpr → Type 0
Becomes lp new ex grown n t e = AllBecome lp new ex grown (n ∷ []) t e

-- expressions stand once over numbers, and none of them is among some trees
pub record StandApart (ex : List AExpr) (changed : Trees AExpr) (ns : List Node) : Type 0 where
  pub trees : Trees AExpr
  pub stand : StandsOnce expr_shape ex ns trees
  pub apart : Apart trees changed
