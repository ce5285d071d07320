use Rattle.std.proofs.Common.{◌≡◌, length, take}
use Rattle.plan_tree.proofs.TreeLemmas.{height_at}
use Rattle.plan_ir.specs.Parts.{inputs_of, plan_shape}
use Rattle.plan_ir.specs.Plans.{plans_at}
use Rattle.plan_function_tables.specs.Given.{GiveAll}
use Rattle.plan_eval.proofs.plan.+plan_table.Given as goal

abbrev pub decreases-plan_table : goal.decreases-plan_table
decreases-plan_table l = height_at plan_shape l.lp.now l.node

-- the tables of the inputs up to here, one for each
abbrev pub invariant-loop-place : goal.invariant-loop-place
invariant-loop-place l = GiveAll l.tables (plans_at l.lp l.ex (take l.place (inputs_of l.entry))) l.given.items × (length l.given.items ≡ l.place)
