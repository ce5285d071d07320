use Rattle.std.proofs.Common.{◌≡◌, take}
use Rattle.std.specs.List.{flat_map}
use Rattle.plan_tree.specs.Walk.{steps_to}
use Rattle.plan_ir.specs.Moved.{entries_at}
use Rattle.plan_ir.specs.Parts.{roots_of}
use Rattle.plan_copy.proofs.copy.expr_steps.Given as goal

abbrev pub invariant-loop-node : goal.invariant-loop-node
invariant-loop-node l = l.steps ≡ steps_to tt (flat_map roots_of (entries_at l.lp (take l.node-index l.nodes)))
