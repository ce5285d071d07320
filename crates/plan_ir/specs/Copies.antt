-- Copies of plans, numbered from 0.
use Rattle.std.specs.Prelude.{◌≡◌, List, [], ◌∷◌, length}
use Rattle.std.specs.List.{range_with_len}
use Rattle.plan_core.specs.declared.arena.Node.{Node}
use Rattle.plan_tree.specs.Rose.{labels}
use Rattle.plan_tree.specs.Stands.{Trees, numbers}
use Rattle.plan_ir.specs.declared.copy.PlanCopy.{PlanCopy}
use Rattle.plan_expr.specs.declared.aexpr.AExpr.{AExpr}
use Rattle.plan_ir.specs.declared.ir.IR.{IR}
use Rattle.plan_ir.specs.Parts.{StandsPlan}
use Rattle.plan_ir.specs.Plans.{plans_at, bare}

-- the same plan on its own: nodes and their expressions numbered from 0 in walk order, and no other entries
pub record IsRenumbered (lp : List IR) (ex : List AExpr) (root : Node) (copy : PlanCopy) : Type 0 where
  pub nodes : Trees IR
  pub exprs : Trees AExpr
  pub stands : StandsPlan copy.lp copy.ex copy.root nodes exprs
  pub same : bare (plans_at copy.lp copy.ex (copy.root ∷ [])) ≡ bare (plans_at lp ex (root ∷ []))
  pub first : copy.root.0 ≡ 0
  pub nodes_in_order : numbers (labels nodes) ≡ range_with_len 0 (length copy.lp)
  pub exprs_in_order : numbers (labels exprs) ≡ range_with_len 0 (length copy.ex)
