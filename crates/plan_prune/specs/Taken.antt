-- What a node becomes that is taken.
use Rattle.std.specs.Prelude.{◌≡◌, ◌||◌, Bool, true, false, List, Option, None, Some, slice_get, slice_set}
use Rattle.plan_core.specs.Columns.{Columns}
use Rattle.plan_core.specs.declared.arena.Node.{Node}
use Rattle.plan_expr.specs.declared.aexpr.AExpr.{AExpr}
use Rattle.plan_expr.specs.Leaves.{Name}
use Rattle.plan_ir.specs.declared.ir.IR.{IR}
use Rattle.plan_ir.specs.Plans.{op_at}
use Rattle.plan_prune_parts.specs.declared.kept.Kept.{Kept}
use Rattle.plan_meaning.specs.Counting.{is_count}
use Rattle.plan_prune_parts.specs.declared.step.Step.{Step}
use Rattle.plan_prune_parts.specs.declared.step.Step.TheVariants as steps
use Rattle.plan_prune.specs.declared.taken.Taken.{Taken}
use Rattle.plan_prune.specs.declared.taken.Taken.TheVariants.{Leaf, Over, Closed, Each}
use Rattle.plan_prune_parts.specs.Steps.{with_kept}
use Rattle.plan_prune_steps.specs.Steps.{step_of}
use Rattle.plan_prune_joins.specs.Joined.{IsKept}

-- the columns of the projection that goes on top of a node without inputs, where projections go on top
abbrev pub top_columns : Bool → Option Columns → Option Columns
top_columns true columns = columns
top_columns false columns = None

-- the step whose node stands in a box
abbrev pub step_told : Taken → Step
step_told (Leaf columns entry) = steps.Leaf columns entry.value
step_told (Over input asked entry) = steps.Over input asked entry.value
step_told (Closed columns entry) = steps.Closed columns entry.value
step_told (Each inputs lists covers rest) = steps.Each inputs lists covers rest.value.kept rest.value.entry

-- a node that is asked names was taken: what is to be done at it is its step with what is to be kept of it, and the mark is set where it was or where the node counts rows
pub record IsTaken (before after : Bool) (lp new : List IR) (ex : List AExpr) (asked : List Name) (n : Node) (step : Step) : Type 0 where
  pub entry : IR
  pub left : IR
  pub kept : Option Kept
  pub there : slice_get lp n.0 ≡ Some entry
  pub taken : new ≡ slice_set lp n.0 left
  pub marked : after ≡ (before || is_count (op_at ex entry))
  pub kept_is : IsKept new ex asked entry kept
  pub step_is : step ≡ with_kept kept (step_of new ex asked entry)
