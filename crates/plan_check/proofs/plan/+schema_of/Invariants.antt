use Rattle.std.proofs.Common.{take}
use Rattle.plan_tree.proofs.TreeLemmas.{height_at}
use Rattle.plan_ir.specs.Parts.{plan_shape}
use Rattle.plan_check.proofs.InputLemmas.{AllTyped}
use Rattle.plan_check.proofs.plan.+schema_of.Given as goal

abbrev pub decreases-schema_of : goal.decreases-schema_of
decreases-schema_of l = height_at plan_shape l.lp.now l.node

abbrev pub invariant-loop-input : goal.invariant-loop-input
invariant-loop-input l = AllTyped l.lp l.ex (take l.input-index l.input-items) l.schemas
