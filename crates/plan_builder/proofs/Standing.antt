-- The numbers of a plan that stands are good.
use Rattle.std.proofs.Common.{◌≡◌, List, [], ◌∷◌, None, refl, sym, subst}
use Rattle.plan_core.specs.declared.arena.Node.{Node}
use Rattle.plan_tree.specs.Rose.{labels}
use Rattle.plan_tree.specs.Stands.{Trees, StandsOnce}
use Rattle.plan_tree.specs.Walk.{nodes_of, walk_from}
use Rattle.plan_tree.proofs.WalkTrees.{walk_from_trees}
use Rattle.plan_expr.specs.declared.aexpr.AExpr.{AExpr}
use Rattle.plan_expr.specs.Operands.{expr_shape}
use Rattle.plan_ir.specs.declared.ir.IR.{IR}
use Rattle.plan_ir.specs.Parts.{IsPlan, plan_shape, roots_in}
use Rattle.plan_meaning.specs.TreeFaults.{marked_exprs, plan_walk, tree_fault}
use Rattle.plan_check.proofs.TreeFaultLemmas.{roots-are}

pub no-tree_fault : (lp : List IR) (ex : List AExpr) (root : Node) → IsPlan lp ex root → tree_fault lp ex root ≡ None
no-tree_fault lp ex root h =
    let t : Trees IR = h.nodes in
    let e : Trees AExpr = h.exprs in
    let nodes : plan_walk lp root ≡ record { listed = labels t; fault = None } = walk_from_trees plan_shape lp (record { node = root; mark = tt } ∷ []) t h.stands.nodes in
    let roots : nodes_of (marked_exprs lp (labels t)) ≡ roots_in t = roots-are lp (root ∷ []) t h.stands.nodes.stands in
    let exprs : walk_from expr_shape ex (marked_exprs lp (labels t)) ≡ record { listed = labels e; fault = None } =
    walk_from_trees expr_shape ex (marked_exprs lp (labels t)) e (subst (λ (l : List Node). StandsOnce expr_shape ex l e) (sym roots) h.stands.exprs) in
    rw (nodes, exprs) refl
