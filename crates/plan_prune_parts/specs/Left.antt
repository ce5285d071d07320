-- A join over pruned sides: what its columns are called, what they are, and what goes on top.
use Rattle.std.specs.Prelude.{◌≤◌, ◌⊎◌, ℕ, List, [], length, map}
use Rattle.std.specs.Option.{option_map_or}
use Rattle.plan_core.specs.declared.arena.Node.{Node}
use Rattle.plan_core.specs.Columns.{names_of}
use Rattle.plan_core.specs.Options.{default_projection}
use Rattle.plan_tree.specs.Rose.{rose, no_roses, more}
use Rattle.plan_tree.specs.Stands.{Trees, Reaches, StandsOnce}
use Rattle.plan_expr.specs.declared.aexpr.AExpr.{AExpr}
use Rattle.plan_expr.specs.declared.expr_ir.ExprIR.{ExprIR}
use Rattle.plan_expr.specs.Exprs.{all_named_at}
use Rattle.plan_expr.specs.Leaves.{Name}
use Rattle.plan_expr.specs.Operands.{expr_shape}
use Rattle.plan_ir.specs.Parts.{condition_of, list_of}
use Rattle.plan_ir.specs.Plans.{Plan, select, simple_projection}
use Rattle.plan_join.specs.declared.options.JoinOptions.{JoinOptions}
use Rattle.plan_join.specs.declared.origin.Side.{Side}
use Rattle.plan_join.specs.Naming.{called}
use Rattle.plan_prune_parts.specs.declared.names.JoinNames.{JoinNames}
use Rattle.plan_prune_parts.specs.declared.top.Top.{Top}
use Rattle.plan_prune_parts.specs.declared.top.Top.TheVariants.{Nothing, Projection, Selection}
use Rattle.plan_prune_parts.specs.Origins.{origin_in}

-- what a name is called now: the column that was put out under it is called by the left columns that are put out now; a name under which none was stays
abbrev pub name_now : JoinNames → Name → Name
name_now names a = option_map_or (λ (c : Side × Name). called names.suffix (names_of names.left) c.0 c.1) (origin_in names.origins a) a

-- a plan with what goes on top
abbrev pub put_on : List AExpr → Top → Plan → Plan
put_on ex Nothing plan = plan
put_on ex (Projection columns) plan = rose tt (simple_projection columns) (more plan no_roses)
put_on ex (Selection exprs schema) plan = rose tt (select (all_named_at ex exprs) schema default_projection) (more plan no_roses)

-- the numbers of the expressions of what goes on top
abbrev pub top_nodes : Top → List Node
top_nodes Nothing = []
top_nodes (Projection columns) = []
top_nodes (Selection exprs schema) = map (λ (e : ExprIR). e.node) exprs

-- the number of the condition of a join, if it has one
abbrev pub condition_nodes : JoinOptions → List Node
condition_nodes o = map (λ (e : ExprIR). e.node) (list_of (condition_of o))

-- where trees stand over some numbers, no number twice, others stand over the numbers in their place once the arena grew: they reach only what those did, and new entries
abbrev pub StandFor : (ex grown : List AExpr) → (new old : List Node) → Type 0
StandFor ex grown new old = (f : Trees AExpr) → StandsOnce expr_shape ex old f → (g : Trees AExpr) × StandsOnce expr_shape grown new g × ((k : ℕ) → Reaches g k → Reaches f k ⊎ (length ex ≤ k))
