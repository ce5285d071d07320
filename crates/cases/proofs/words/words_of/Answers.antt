use Rattle.std.proofs.Common.{◌≡◌, ◌∙◌, ◌++◌, ◌∷◌, List, [], ℕ, Bor, filter, map, take, get_or, ◌+◌, lit<, refl, ap, sym, subst}
use Rattle.cases.specs.Words.{AreWordsOf, gives_word}
use Rattle.cases.proofs.WordLemmas.{Lies, seen, shown, word_of_line, words_more, words_skip}
use Rattle.cases.proofs.words.words_of.Goals.{then-starts_with+in_ok-push, else-starts_with}
use Rattle.cases.proofs.words.words_of.Goals as goal

pub loop-line-preserved : goal.loop-line-preserved
loop-line-preserved c =
    let none : Bor (List ℕ) = record { ref_ptr = (0, 0); now = [] } in
    let i : ℕ = c.loop-line.line-index in
    let lines : List (Bor (List ℕ)) = c.args.lines.now in
    let begins = c.starts_with.ensures.byte (lit< tt) (lit< tt) (λ w o h. h) in
    elim c.if-starts_with.branch [
      | then-starts_with+in_ok-push w ↦ (
          let items : c.if-starts_with.words.items ≡ c.loop-line.words.items ++ w.unwrap_or.result ∷ [] = ap (λ v. v.items) w.words-is ∙ w.in_ok-push.ensures.items in
          subst (λ (l : List Lies). AreWordsOf (filter gives_word (map shown (take (i + 1) lines))) (map seen l)) (sym items)
          (words_more lines i none c.loop-line.words.items w.unwrap_or.result c.loop-line-test.true (sym begins ∙ w.if-starts_with.true) c.loop-line.invariant
          (word_of_line (get_or lines i none).now w.defined.result _ w.unwrap_or.result w.defined.ensures.parts w.defined.ensures.none refl w.unwrap_or.ensures)))
      | else-starts_with w ↦ (
          subst (λ (l : List Lies). AreWordsOf (filter gives_word (map shown (take (i + 1) lines))) (map seen l)) (sym (ap (λ v. v.items) w.words-is))
          (words_skip lines i none (map seen c.loop-line.words.items) c.loop-line-test.true (sym begins ∙ w.if-starts_with.false) c.loop-line.invariant))
    ]
