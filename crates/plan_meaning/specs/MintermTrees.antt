-- The minterms of an expression in an arena.
use Rattle.std.specs.Prelude.{List, [], ◌∷◌, if◌then◌else◌}
use Rattle.plan_core.specs.declared.arena.Node.{Node}
use Rattle.plan_tree.specs.Rose.{Roses, rose, no_roses, more, join}
use Rattle.plan_tree.specs.Stands.{Trees}
use Rattle.plan_expr.specs.declared.aexpr.AExpr.{AExpr}
use Rattle.plan_expr.specs.Exprs.{ExprOp, Expr, expr_op}
use Rattle.plan_meaning.specs.Minterms.{is_and}

-- the trees of the minterms of trees, left first
abbrev pub minterm_trees : Trees AExpr → Trees AExpr
minterm_trees no_roses = no_roses
minterm_trees (more (rose n p kids) rest) = join (if is_and (expr_op p) then minterm_trees kids else more (rose n p kids) no_roses) (minterm_trees rest)

-- the numbers of the roots of trees
abbrev pub roots : Trees AExpr → List Node
roots no_roses = []
roots (more (rose n p kids) rest) = n ∷ roots rest

-- trees side by side, as a list
abbrev pub listed : Roses (Unit {0}) ExprOp → List Expr
listed no_roses = []
listed (more e es) = e ∷ listed es
