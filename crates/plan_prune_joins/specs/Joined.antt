-- A join: what it asks its sides, what is kept of it, and how it goes back over its pruned sides.
use Rattle.std.specs.Prelude.{◌≡◌, List, [], ◌∷◌, ◌++◌, length, Option, None, Some, slice_set}
use Rattle.plan_core.specs.declared.arena.Node.{Node}
use Rattle.plan_core.specs.Columns.{Columns}
use Rattle.plan_core.specs.Options.{default_projection}
use Rattle.plan_expr.specs.declared.aexpr.AExpr.{AExpr}
use Rattle.plan_expr.specs.declared.expr_ir.ExprIR.{ExprIR}
use Rattle.plan_expr.specs.Exprs.{all_named_at, Named}
use Rattle.plan_expr.specs.Leaves.{Name}
use Rattle.plan_ir.specs.declared.ir.IR.{IR}
use Rattle.plan_ir.specs.declared.ir.IR.TheVariants.{Select, Join}
use Rattle.plan_ir.specs.Plans.{Plan}
use Rattle.plan_join.specs.declared.options.JoinOptions.{JoinOptions}
use Rattle.plan_join.specs.declared.origin.Side.{Side}
use Rattle.plan_join.specs.Naming.{has_right, join_columns}
use Rattle.plan_join.specs.Told.{column_keys, told_at}
use Rattle.plan_pruned.specs.JoinPruned.{called_now, first_of_each, narrowed_told, topped_if, narrowed_args}
use Rattle.plan_prune_parts.specs.declared.top.Top.{Top}
use Rattle.plan_prune_parts.specs.declared.top.Top.TheVariants.{Nothing, Projection, Selection}
use Rattle.plan_prune_parts.specs.Left.{condition_nodes, put_on, top_nodes, StandFor}
use Rattle.plan_prune_parts.specs.Origins.{origin_in}
use Rattle.plan_meaning.specs.JoinAsked.{origin_of, left_names, right_names}
use Rattle.plan_prune_parts.specs.declared.kept.Kept.{Kept}
use Rattle.plan_prune_parts.specs.Tops.{with_top}
use Rattle.plan_prune_parts.specs.declared.step.Step.{Step}
use Rattle.plan_prune_parts.specs.Said.{columns_at}
use Rattle.plan_prune_parts.specs.declared.step.Step.TheVariants.{Leaf, Each}

-- what a join is told that goes back over its pruned sides; asked nothing, what it was
abbrev pub joined_options : List Name → (right_on : List Named) → JoinOptions → Columns → JoinOptions
joined_options [] right_on options s = options
joined_options (a ∷ asked) right_on options s = record options { args = narrowed_args options.args (a ∷ asked) right_on s }

-- the step of a join that is asked names; the last columns are those of its sides
abbrev pub joined_step : List AExpr → List Name → (left right : Node) → Columns → (left_on right_on : List ExprIR) → JoinOptions → (s t : Columns) → Step
joined_step ex asked left right schema left_on right_on options s t =
    let ls = all_named_at ex left_on in
    let rs = all_named_at ex right_on in
    let told = told_at ex options in
    Each (left ∷ right ∷ []) (left_names asked ls rs told s t ∷ right_names asked ls rs told s t ∷ []) None None (Join left right schema left_on right_on (joined_options asked rs options s))

-- the step of a join that is asked names, of which nothing is kept yet; another node goes back as it is
abbrev pub step_of_join : List IR → List AExpr → List Name → IR → Step
step_of_join lp ex asked (Join left right schema left_on right_on options) = joined_step ex asked left right schema left_on right_on options (columns_at lp ex left) (columns_at lp ex right)
step_of_join lp ex asked other = Leaf None other

-- these names are kept, and from which columns they come; nothing, where there are none
abbrev pub Keeps : List Name → (by : Name → Option (Side × Name)) → Option Kept → Type 0
Keeps [] by kept = kept ≡ None
Keeps (a ∷ asked) by kept = (k : Kept) × (kept ≡ Some k) × (k.asked ≡ a ∷ asked) × ((b : Name) → origin_in k.origins b ≡ by b)

-- what is kept of a node that is asked names: of a join these, and the columns of its sides by the names under which it puts them out
abbrev pub IsKept : List IR → List AExpr → List Name → IR → Option Kept → Type 0
IsKept lp ex asked (Join left right schema left_on right_on options) kept = Keeps asked (origin_of (all_named_at ex left_on) (all_named_at ex right_on) (told_at ex options) (columns_at lp ex left) (columns_at lp ex right)) kept
IsKept lp ex asked other kept = kept ≡ None

-- the node at a number, with what goes on top of it that takes the number
abbrev pub with_on : Top → List IR → Node → IR → List IR
with_on Nothing lp n p = slice_set lp n.0 p
with_on (Projection columns) lp n p = with_top columns lp n p
with_on (Selection es schema) lp n p = slice_set (lp ++ p ∷ []) n.0 (Select (record { 0 = length lp }) es schema default_projection)

-- a join over sides that were pruned, and what goes on top of it: what it is told, its columns and what is on top are by the columns of these sides and by those that were kept, and what is new stands in the place of its condition
pub record IsJoined (kept : Kept) (lp : List IR) (ex grown : List AExpr) (left right : Node) (left_on right_on : List ExprIR) (options : JoinOptions) (made : IR) (top : Top) : Type 0 where
  pub now : JoinOptions
  pub schema : Columns
  pub is : made ≡ Join left right schema left_on right_on now
  pub told : told_at grown now ≡ narrowed_told (called_now options.args (column_keys (all_named_at ex left_on)) (columns_at lp ex left) (origin_in kept.origins)) options.args (told_at ex options)
  pub columns : schema ≡ first_of_each (join_columns options.args (column_keys (all_named_at ex left_on)) (column_keys (all_named_at ex right_on)) (columns_at lp ex left) (columns_at lp ex right))
  pub on_top : (plan : Plan) → put_on grown top plan ≡ topped_if (has_right options.args.how) (called_now options.args (column_keys (all_named_at ex left_on)) (columns_at lp ex left) (origin_in kept.origins)) kept.asked schema plan
  pub place : StandFor ex grown (top_nodes top ++ condition_nodes now) (condition_nodes options)

-- a join that was asked names became so
abbrev pub JoinMade : Kept → List IR → (ex grown : List AExpr) → (join made : IR) → Top → Type 0
JoinMade kept lp ex grown (Join left right schema left_on right_on options) made top = IsJoined kept lp ex grown left right left_on right_on options made top
JoinMade kept lp ex grown other made top = ⊥

-- and was put at a number so, under what goes on top of it
pub record JoinPut (kept : Kept) (lp new : List IR) (ex grown : List AExpr) (n : Node) (join : IR) : Type 0 where
  pub made : IR
  pub top : Top
  pub is : JoinMade kept lp ex grown join made top
  pub placed : new ≡ with_on top lp n made
