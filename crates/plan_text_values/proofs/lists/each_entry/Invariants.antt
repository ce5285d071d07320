-- What is written so far comes from the first entries.
use Rattle.std.proofs.Common.{take}
use Rattle.std.specs.Fn.{FnReturnsAt}
use Rattle.plan_text_values.specs.Lists.{Pairs}
use Rattle.plan_text_values.proofs.lists.each_entry.Given as goal

abbrev pub invariant-loop-i : goal.invariant-loop-i
invariant-loop-i g l = Pairs (FnReturnsAt g.F.Fn l.write) (take l.i l.arena) l.written.items
