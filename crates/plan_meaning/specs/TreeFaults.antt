-- The first number that spoils a plan: in walk order a node, its expressions, and then its inputs from first to last.
use Rattle.std.specs.Prelude.{ℕ, suc, List, [], ◌∷◌, ◌++◌, Option, Some, None, slice_get}
use Rattle.std.specs.Option.{option_map_or}
use Rattle.plan_core.specs.declared.arena.Node.{Node}
use Rattle.plan_core.specs.declared.error.At.{At}
use Rattle.plan_core.specs.declared.error.PolarsError.{PolarsError}
use Rattle.plan_core.specs.declared.error.PolarsError.TheVariants.{ComputeError}
use Rattle.plan_tree.specs.declared.walking.Step.{Step}
use Rattle.plan_tree.specs.declared.walking.Walked.{Walked}
use Rattle.plan_tree.specs.Walk.{walk_from}
use Rattle.plan_expr.specs.declared.aexpr.AExpr.{AExpr}
use Rattle.plan_expr.specs.declared.expr_ir.ExprIR.{ExprIR}
use Rattle.plan_ir.specs.declared.ir.IR.{IR}
use Rattle.plan_expr.specs.Operands.{expr_shape}
use Rattle.plan_ir.specs.Parts.{plan_shape, exprs_of}
use Rattle.plan_meaning.specs.Typing.{at, or_fault}

-- the numbers of expressions, each with the place of its node where it stands; the first stands at a place
abbrev pub marked : Node → ℕ → List ExprIR → List (Step At)
marked n k [] = []
marked n k (e ∷ es) = record { node = e.node; mark = at n k } ∷ marked n (suc k) es

-- the numbers of the expressions of a node, the first at place 1
abbrev pub marked_at : List IR → Node → List (Step At)
marked_at lp n = option_map_or (λ p. marked n 1 (exprs_of p)) (slice_get lp n.0) []

-- the numbers of the expressions of nodes, node by node
abbrev pub marked_exprs : List IR → List Node → List (Step At)
marked_exprs lp [] = []
marked_exprs lp (n ∷ ns) = marked_at lp n ++ marked_exprs lp ns

-- what a walk over plan nodes finds from a root
abbrev pub plan_walk : List IR → Node → Walked (Unit {0})
plan_walk lp root = walk_from plan_shape lp (record { node = root; mark = tt } ∷ [])

-- a bad number of a plan node stands at that number, place 0
abbrev pub node_fault : Option (Step (Unit {0})) → Option PolarsError
node_fault None = None
node_fault (Some s) = Some (ComputeError (at s.node 0))

-- a bad number of an expression stands where the node's expression stands that leads to it
abbrev pub expr_fault : Option (Step At) → Option PolarsError
expr_fault None = None
expr_fault (Some s) = Some (ComputeError s.mark)

-- the first bad number: the expressions of the nodes met before a bad node come before it
abbrev pub tree_fault : List IR → List AExpr → Node → Option PolarsError
tree_fault lp ex root =
    let nodes = plan_walk lp root in
    or_fault (expr_fault (walk_from expr_shape ex (marked_exprs lp nodes.listed)).fault) (node_fault nodes.fault)
