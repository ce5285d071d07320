-- What the walk over demands makes of a node, and what it tells the inputs that it stacks.
use Rattle.std.specs.Prelude.{Bool, ◌&&◌, ◌||◌, List, Option, None, Some, if◌then◌else◌}
use Rattle.plan_core.specs.declared.arena.Node.{Node}
use Rattle.plan_expr.specs.declared.aexpr.AExpr.{AExpr}
use Rattle.plan_ir.specs.declared.ir.IR.{IR}
use Rattle.plan_ir.specs.declared.ir.IR.TheVariants as nodes
use Rattle.plan_ir.specs.Parts.{inputs_of}
use Rattle.plan_ir.specs.Plans.{op_at}
use Rattle.plan_meaning.specs.Checks.{is_empty}
use Rattle.plan_order_laws.specs.Demands.{demands}

-- the node with the mark that its demand gives it
abbrev pub told_node : Bool → IR → IR
told_node d (nodes.Distinct input options) = nodes.Distinct input (record options { maintain_order = d && options.maintain_order })
told_node d (nodes.Union inputs options) = nodes.Union inputs (record options { maintain_order = d })
told_node d p = p

-- the input of a sort whose order isn't demanded
abbrev pub idle_input_of : Bool → IR → Option Node
idle_input_of d (nodes.Sort input by_column cut sort_options) = if d then None else Some input
idle_input_of d p = None

-- whether the order of what is on top of the stack is demanded, once the inputs of a node are stacked
abbrev pub top_demand : Bool → List AExpr → IR → Bool
top_demand d ex p = demands d (op_at ex p) || is_empty (inputs_of p)
