use Rattle.std.proofs.Common.{map, take}
use Rattle.std.specs.List.{filter}
use Rattle.cases.specs.Words.{AreWordsOf, gives_word}
use Rattle.cases.proofs.WordLemmas.{seen, shown}
use Rattle.cases.proofs.words.words_of.Given as goal

-- the words of the lines up to here
abbrev pub invariant-loop-line : goal.invariant-loop-line
invariant-loop-line l = AreWordsOf (filter gives_word (map shown (take l.line-index l.lines))) (map seen l.words.items)
