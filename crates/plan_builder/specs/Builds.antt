-- Plans that a builder stands on, and the nodes that it puts on them.
use Rattle.std.specs.Prelude.{◌≡◌, ◌++◌, Bool, List, [], ◌∷◌, length, unwrap_or}
use Rattle.plan_core.specs.declared.arena.Node.{Node}
use Rattle.plan_core.specs.declared.options.ProjectionOptions.{ProjectionOptions}
use Rattle.plan_core.specs.Columns.{Columns}
use Rattle.plan_expr.specs.declared.aexpr.AExpr.{AExpr}
use Rattle.plan_expr.specs.declared.expr_ir.ExprIR.{ExprIR}
use Rattle.plan_expr.specs.declared.expr_ir.OutputName.TheVariants.{None as Unnamed}
use Rattle.plan_expr.specs.Exprs.{all_named_at, expr_at}
use Rattle.plan_expr.specs.Naming.{naming, own_output_name}
use Rattle.plan_ir.specs.declared.ir.IR.{IR}
use Rattle.plan_ir.specs.declared.ir.IR.TheVariants.{Select, HStack, GroupBy, Join}
use Rattle.plan_ir.specs.Parts.{IsPlan}
use Rattle.plan_options.specs.declared.group.GroupbyOptions.{GroupbyOptions}
use Rattle.plan_join.specs.declared.options.JoinOptions.{JoinOptions}
use Rattle.plan_join.specs.Naming.{join_columns, key_columns}
use Rattle.plan_frame.specs.Grouping.{group_exprs}
use Rattle.plan_meaning.specs.PlanAt.{plan_at}
use Rattle.plan_meaning.specs.Steps.{IsValid}
use Rattle.plan_frame.specs.Made.{made_schema}
use Rattle.plan_meaning.specs.Typing.{schema}

-- a valid plan stands at a number
pub record IsBuilt (lp : List IR) (ex : List AExpr) (root : Node) : Type 0 where
  pub plan : IsPlan lp ex root
  pub valid : IsValid (plan_at lp ex root)

-- a node, put last, is a valid plan over what it reaches
abbrev pub MayFollow : List IR → List AExpr → IR → Type 0
MayFollow lp ex p = (n : Node) → n.0 ≡ length lp → IsBuilt (lp ++ p ∷ []) ex n

-- the node was put last, and stands at the new root
pub record Adds (lp lp' : List IR) (root' : Node) (p : IR) : Type 0 where
  pub added : lp' ≡ lp ++ p ∷ []
  pub last : root'.0 ≡ length lp

-- the entries and the root are as they were
pub record Stays (lp lp' : List IR) (root root' : Node) : Type 0 where
  pub same_entries : lp' ≡ lp
  pub same_root : root' ≡ root

-- the columns of the plan at a number
abbrev pub columns_at : List IR → List AExpr → Node → Columns
columns_at lp ex root = schema (plan_at lp ex root)

-- the selection of what expressions make over the plan at a number
abbrev pub selection : List IR → List AExpr → Node → List ExprIR → ProjectionOptions → IR
selection lp ex root exprs options =
    Select root exprs (made_schema [] (all_named_at ex exprs) (columns_at lp ex root)) options

-- the addition of what expressions make to the columns of the plan at a number
abbrev pub addition : List IR → List AExpr → Node → List ExprIR → ProjectionOptions → IR
addition lp ex root exprs options =
    HStack root exprs (made_schema (columns_at lp ex root) (all_named_at ex exprs) (columns_at lp ex root)) options

-- the grouping by keys of the plan at a number, with what aggregates are over its groups
abbrev pub grouping : List IR → List AExpr → Node → (keys aggs : List ExprIR) → Bool → GroupbyOptions → IR
grouping lp ex root keys aggs ordered options =
    GroupBy root keys aggs (made_schema [] (group_exprs (all_named_at ex keys) (all_named_at ex aggs)) (columns_at lp ex root)) ordered options

-- the join of the plans at two numbers
abbrev pub joining : List IR → List AExpr → (root other : Node) → (left_on right_on : List ExprIR) → JoinOptions → IR
joining lp ex root other left_on right_on options =
    Join root other (join_columns options.args (key_columns ex left_on) (key_columns ex right_on) (columns_at lp ex root) (columns_at lp ex other)) left_on right_on options

-- the expression at a number, under the name that it gives itself
abbrev pub own_expr : List AExpr → Node → ExprIR
own_expr ex n = record { node = n; output_name = unwrap_or (own_output_name (naming (expr_at ex n))) Unnamed }
