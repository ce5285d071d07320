use Rattle.std.proofs.Common.{take}
use Rattle.cases.specs.Cases.{AreRead}
use Rattle.cases.proofs.cases.all_tried.Given as goal

-- the lines up to here are read
abbrev pub invariant-loop-line : goal.invariant-loop-line
invariant-loop-line l = AreRead l.initial.words (take l.line-index l.lines) l.found.items l.words
