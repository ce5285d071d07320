use Rattle.std.proofs.Common.{◌≡◌, ◌+◌, ◌++◌, length, reverse}
use Rattle.plan_pruned.proofs.renamed.taken.Given as goal

-- what was taken stands before what is left, from the end
abbrev pub invariant-loop : goal.invariant-loop
invariant-loop l = (reverse l.initial.copies ≡ l.taken ++ reverse l.copies) × (length l.taken ≡ l.counter) × (l.counter + length l.copies ≡ length l.initial.copies)
