use Rattle.std.proofs.Common.{◌*◌, ◌+◌, length, map, take, List}
use Rattle.plan_tree.proofs.TreeLemmas.{height, height_at, tallest}
use Rattle.plan_expr.specs.declared.aexpr.AExpr.{AExpr}
use Rattle.plan_ir.specs.Parts.{plan_shape}
use Rattle.plan_ir.specs.Plans.{bare, plans_at}
use Rattle.plan_order_laws.specs.Counted.{counted_each}
use Rattle.plan_order.specs.Counts.{Adds}
use Rattle.plan_order.proofs.scans.+scans.Given as goal

abbrev pub decreases-add_scans : goal.decreases-add_scans
decreases-add_scans l = 2 * height_at plan_shape l.lp.now l.node

abbrev pub decreases-add_each : goal.decreases-add_each
decreases-add_each l = 2 * tallest plan_shape (height plan_shape (length l.lp.now) l.lp.now) l.inputs.now + 1

-- the scans of the inputs up to here are added
abbrev pub invariant-add_each-loop-input : goal.invariant-add_each-loop-input
invariant-add_each-loop-input l = (ex : List AExpr) → Adds (counted_each (bare (plans_at l.lp ex (take l.input-index l.inputs)))) (map (λ q. (q.0.now, q.1)) l.initial.found.items) (map (λ q. (q.0.now, q.1)) l.found.items)
