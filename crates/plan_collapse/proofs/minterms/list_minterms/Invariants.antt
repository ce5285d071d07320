-- What is listed and what waits make the minterms, and ever less waits.
use Rattle.plan_collapse.proofs.MintermLists.{Listing, left}
use Rattle.plan_collapse.proofs.minterms.list_minterms.Given as goal

abbrev pub invariant-loop-next : goal.invariant-loop-next
invariant-loop-next l = Listing l.ex l.fn.node l.numbers.items l.pending

abbrev pub decreases-loop-next : goal.decreases-loop-next
decreases-loop-next l = left l.ex l.pending
