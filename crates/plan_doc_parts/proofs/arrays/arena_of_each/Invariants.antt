use Rattle.std.proofs.Common.{take}
use Rattle.std.specs.Fn.{FnReturnsAt}
use Rattle.plan_doc_parts.specs.Each.{Pairs}
use Rattle.plan_doc_parts.proofs.arrays.arena_of_each.Given as goal

abbrev pub invariant-loop-entry : goal.invariant-loop-entry
invariant-loop-entry g l = Pairs (FnReturnsAt g.F.Fn l.read) (take l.entry-index l.entries) l.found
