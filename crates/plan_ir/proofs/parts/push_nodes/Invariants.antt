use Rattle.std.proofs.Common.{◌≡◌, ◌++◌, take}
use Rattle.plan_ir.proofs.parts.push_nodes.Given as goal

abbrev pub invariant-loop-input : goal.invariant-loop-input
invariant-loop-input l = l.out ≡ l.initial.out ++ take l.input-index l.list
