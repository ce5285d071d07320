-- What is written so far comes from the first values.
use Rattle.std.proofs.Common.{take}
use Rattle.std.specs.Fn.{FnReturnsAt}
use Rattle.plan_text_values.specs.Lists.{Pairs}
use Rattle.plan_text_values.proofs.lists.each.Given as goal

abbrev pub invariant-loop-item : goal.invariant-loop-item
invariant-loop-item g l = Pairs (FnReturnsAt g.F.Fn l.write) (take l.item-index l.items) l.written.items
