-- How long a document, and how deep a plan and its expressions may be.
use Rattle.std.specs.Prelude.{ℕ, ◌<◌, ◌≤◌, ◌⊎◌, List}
use Rattle.plan_core.specs.declared.arena.Node.{Node}
use Rattle.plan_tree.specs.Rose.{levels}
use Rattle.plan_tree.specs.Stands.{Trees}
use Rattle.plan_expr.specs.declared.aexpr.AExpr.{AExpr}
use Rattle.plan_ir.specs.declared.ir.IR.{IR}
use Rattle.plan_ir.specs.Parts.{StandsPlan}

-- how many bytes a document may have
abbrev pub byte_limit : ℕ
byte_limit = 16777216

-- a plan stands at a number with at most 256 levels and expressions of at most 128
pub record IsShallow (lp : List IR) (ex : List AExpr) (root : Node) : Type 0 where
  pub nodes : Trees IR
  pub exprs : Trees AExpr
  pub stands : StandsPlan lp ex root nodes exprs
  pub plan : levels nodes ≤ 256
  pub expr : levels exprs ≤ 128

-- a plan stands at a number with more levels than 256, or an expression of more than 128
pub record IsDeep (lp : List IR) (ex : List AExpr) (root : Node) : Type 0 where
  pub nodes : Trees IR
  pub exprs : Trees AExpr
  pub stands : StandsPlan lp ex root nodes exprs
  pub deep : (256 < levels nodes) ⊎ (128 < levels exprs)
