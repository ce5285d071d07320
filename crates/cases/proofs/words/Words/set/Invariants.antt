use Rattle.std.proofs.Common.{◌≡◌, false, map, take}
use Rattle.cases.specs.Words.{has_word}
use Rattle.cases.proofs.WordLemmas.{seen}
use Rattle.cases.proofs.words.Words.set.Given as goal

-- nothing was written, and the word is none of those before this place
abbrev pub invariant-loop-at : goal.invariant-loop-at
invariant-loop-at l = record {
  same : l.self-inside ≡ l.initial.self-inside;
  absent : has_word (map seen (take l.at l.self-inside.words.items)) l.word ≡ false;
}
