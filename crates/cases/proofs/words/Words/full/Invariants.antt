use Rattle.std.proofs.Common.{ℕ, List, drop, map, string_bytes}
use Rattle.cases.specs.Words.{IsFilled}
use Rattle.cases.proofs.WordLemmas.{seen}
use Rattle.cases.proofs.words.Words.full.Given as goal

-- what the words that are left make of the text so far, all words make of the given text
abbrev pub invariant-loop-word : goal.invariant-loop-word
invariant-loop-word l = (full : List ℕ) → IsFilled (map seen (drop l.word-index l.word-items)) (string_bytes l.made) full → IsFilled l.self l.text full
