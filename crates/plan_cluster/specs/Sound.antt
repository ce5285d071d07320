-- Trees of nodes whose expressions stand, and whose additions put out each name once.
use Rattle.std.specs.Prelude.{All, List}
use Rattle.plan_core.specs.declared.arena.Node.{Node}
use Rattle.plan_core.specs.Names.{AreDistinct}
use Rattle.plan_tree.specs.Rose.{rose, no_roses, more}
use Rattle.plan_tree.specs.Stands.{Trees}
use Rattle.plan_expr.specs.declared.aexpr.AExpr.{AExpr}
use Rattle.plan_expr.specs.Operands.{IsExpr}
use Rattle.plan_frame.specs.ExprLists.{out_names}
use Rattle.plan_ir.specs.declared.ir.IR.{IR}
use Rattle.plan_ir.specs.Parts.{roots_of}
use Rattle.plan_ir.specs.Plans.{op_at}
use Rattle.plan_collapse_laws.specs.Additions.{added, addition_of}

-- the expressions of a node stand, and those of an addition are put out under different names
abbrev pub IsSound : List AExpr → IR → Type 0
IsSound ex p = All (λ (n : Node). IsExpr ex n) (roots_of p) × AreDistinct (out_names (added (addition_of (op_at ex p))))

-- all nodes of trees are so
abbrev pub AllSound : List AExpr → Trees IR → Type 0
AllSound ex no_roses = Unit {0}
AllSound ex (more (rose n p kids) rest) = IsSound ex p × AllSound ex kids × AllSound ex rest
