-- Entries of an arena under new numbers.
use Rattle.std.specs.Prelude.{List, map, get_or, slice_get}
use Rattle.std.specs.List.{filter_map}
use Rattle.plan_core.specs.declared.arena.Node.{Node}
use Rattle.plan_expr.specs.declared.aexpr.AExpr.{AExpr}
use Rattle.plan_expr.specs.declared.expr_ir.ExprIR.{ExprIR}
use Rattle.plan_ir.specs.declared.ir.IR.{IR}
use Rattle.plan_expr.specs.Operands.{operands_of, over_operands}
use Rattle.plan_ir.specs.Parts.{inputs_of, exprs_of, over_parts}

-- the entries at numbers, in their order
abbrev pub entries_at : {P : Type 0} → List P → List Node → List P
entries_at arena ns = filter_map (λ (n : Node). slice_get arena n.0) ns

-- the new number of an entry, from a table of the new numbers by the old ones; what the table lacks stays
abbrev pub new_number : List Node → Node → Node
new_number table n = get_or table n.0 n

-- an expression whose operands have new numbers
abbrev pub moved_expr : List Node → AExpr → AExpr
moved_expr table e = over_operands e (map (new_number table) (operands_of e))

-- an expression of a node, under its new number
abbrev pub moved_named : List Node → ExprIR → ExprIR
moved_named table e = record { node = new_number table e.node; output_name = e.output_name }

-- a node whose inputs and expressions have new numbers
abbrev pub moved_node : List Node → List Node → IR → IR
moved_node nodes exprs p = over_parts p (map (moved_named exprs) (exprs_of p)) (map (new_number nodes) (inputs_of p))
