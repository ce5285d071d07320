-- What a plan lists, and the new numbers of that.
use Rattle.std.specs.Prelude.{◌≡◌, List, length, map}
use Rattle.std.specs.List.{range_with_len}
use Rattle.plan_core.specs.declared.arena.Node.{Node}
use Rattle.plan_tree.specs.Rose.{labels}
use Rattle.plan_tree.specs.Stands.{Trees, numbers}
use Rattle.plan_expr.specs.declared.aexpr.AExpr.{AExpr}
use Rattle.plan_ir.specs.declared.ir.IR.{IR}
use Rattle.plan_ir.specs.Moved.{new_number}
use Rattle.plan_ir.specs.Parts.{StandsPlan}
use Rattle.plan_copy.specs.declared.copy.Listed.{Listed}
use Rattle.plan_copy.specs.declared.copy.Numbered.{Numbered}

-- numbers listed in walk order: those of the nodes of a plan, and those of the expressions of its nodes
pub record Lists (lp : List IR) (ex : List AExpr) (root : Node) (listed : Listed) : Type 0 where
  pub nodes : Trees IR
  pub exprs : Trees AExpr
  pub stands : StandsPlan lp ex root nodes exprs
  pub nodes_in_order : listed.nodes ≡ labels nodes
  pub exprs_in_order : listed.exprs ≡ labels exprs

-- new numbers for what a plan lists: from 0 on, in the order of the lists
pub record Numbers (lp : List IR) (ex : List AExpr) (root : Node) (found : Numbered) : Type 0 where
  pub listed : Lists lp ex root found.listed
  pub nodes : numbers (map (new_number found.nodes) found.listed.nodes) ≡ range_with_len 0 (length found.listed.nodes)
  pub exprs : numbers (map (new_number found.exprs) found.listed.exprs) ≡ range_with_len 0 (length found.listed.exprs)
