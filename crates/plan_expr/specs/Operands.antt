-- The operands of an expression, and the trees that expressions make.
use Rattle.std.specs.Prelude.{Bool, false, List, [], ◌∷◌, drop, get_or}
use Rattle.plan_core.specs.declared.arena.Node.{Node}
use Rattle.plan_tree.specs.Stands.{Shape, Trees, StandsOnce}
use Rattle.plan_expr.specs.Aggregates.{agg_input, agg_over}
use Rattle.plan_expr.specs.declared.aexpr.AExpr.{AExpr}
use Rattle.plan_expr.specs.declared.aexpr.AExpr.TheVariants.{Column, Literal, Alias, BinaryExpr, Ternary, Agg, Function, Window, Len}

-- the operands of an expression, in walk order
abbrev pub operands_of : AExpr → List Node
operands_of (Column name) = []
operands_of (Literal value) = []
operands_of (Alias input name) = input ∷ []
operands_of (BinaryExpr left op right) = left ∷ right ∷ []
operands_of (Ternary predicate truthy falsy) = truthy ∷ falsy ∷ predicate ∷ []
operands_of (Agg agg) = agg_input agg ∷ []
operands_of (Function input function options) = input
operands_of (Window function partition_by) = function ∷ partition_by
operands_of Len = []

-- any expression can stand in a tree
abbrev pub is_bad_expr : AExpr → Bool
is_bad_expr e = false

-- how expressions make trees: their operands in order, and none is bad
abbrev pub expr_shape : Shape AExpr
expr_shape = record { inputs = operands_of; bad = is_bad_expr }

-- a tree of expressions stands at a number
abbrev pub IsExpr : List AExpr → Node → Type 0
IsExpr ex n = (t : Trees AExpr) × StandsOnce expr_shape ex (n ∷ []) t

-- the expression over other operands
abbrev pub over_operands : AExpr → List Node → AExpr
over_operands (Column name) operands = Column name
over_operands (Literal value) operands = Literal value
over_operands (Alias input name) operands = Alias (get_or operands 0 input) name
over_operands (BinaryExpr left op right) operands = BinaryExpr (get_or operands 0 left) op (get_or operands 1 right)
over_operands (Ternary predicate truthy falsy) operands = Ternary (get_or operands 2 predicate) (get_or operands 0 truthy) (get_or operands 1 falsy)
over_operands (Agg agg) operands = Agg (agg_over agg (get_or operands 0 (agg_input agg)))
over_operands (Function input function options) operands = Function operands function options
over_operands (Window function partition_by) operands = Window (get_or operands 0 function) (drop 1 operands)
over_operands Len operands = Len
