use Rattle.std.proofs.Common.{◌≡◌, ◌+◌, ◌*◌, ◌∷◌, [], Some, length}
use Rattle.std.specs.List.{slice_get}
use Rattle.plan_core.specs.declared.arena.Node.{Node}
use Rattle.plan_prune_names.specs.Known.{KnowsAt}
use Rattle.plan_tree.proofs.TreeLemmas.{height, height_at, tallest}
use Rattle.plan_ir.specs.Parts.{plan_shape}
use Rattle.plan_prune.proofs.EachLemmas.{SoFar}
use Rattle.plan_prune.proofs.push_down.ProjectionPushDown.+push.Given as goal

abbrev pub decreases-push_down : goal.decreases-push_down
decreases-push_down l = 3 * height_at plan_shape l.lp.now l.node

abbrev pub decreases-push_inputs : goal.decreases-push_inputs
decreases-push_inputs l = 3 * tallest plan_shape (height plan_shape (length l.lp.now) l.lp.now) l.inputs.now + 2

abbrev pub decreases-push_input : goal.decreases-push_input
decreases-push_input l = 3 * height_at plan_shape l.lp.now l.input + 1

-- the inputs up to here are pruned, the mark is set where they count rows, and what is known of the columns of the next one is right
abbrev pub invariant-push_inputs-loop-input : goal.invariant-push_inputs-loop-input
invariant-push_inputs-loop-input l =
    SoFar l.initial.self.is_count_star l.self.is_count_star l.covered l.initial.input-iterator.b.rest.now l.initial.lp l.lp l.initial.ex l.ex l.initial.input-iterator.a.rest.now (length l.yielded)
    × ((i : Node) → slice_get l.initial.input-iterator.a.rest.now (length l.yielded) ≡ Some i → KnowsAt l.columns l.lp (i ∷ []))
