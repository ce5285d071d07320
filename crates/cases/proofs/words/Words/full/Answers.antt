use Rattle.std.proofs.Common.{◌≡◌, ◌∙◌, ◌<◌, ◌≤◌, ℕ, List, [], length, map, string_bytes, refl, ap, sym, subst, get_or}
use Rattle.std.proofs.lemmas.List.{drop_all}
use Rattle.cases.specs.Words.{IsFilled, IsReplaced}
use Rattle.cases.proofs.WordLemmas.{filled_next, Lies, replaced_text, seen}
use Rattle.cases.proofs.words.Words.full.Goals as goal

pub loop-word-init : goal.loop-word-init
loop-word-init c = λ full h.
    let is : map seen c.deref-word-items.result.now ≡ c.args.self.now = ap (λ (l : List Lies). map seen l) c.deref-word-items.ensures.value ∙ c.self.view_is in
    subst (λ (l : List (List ℕ × List ℕ)). IsFilled l c.args.text.now full) is
    (subst (λ (t : List ℕ). IsFilled (map seen c.deref-word-items.result.now) t full) c.in_ok-made.ensures.ok h)

pub loop-word-preserved : goal.loop-word-preserved
loop-word-preserved c = λ full h.
    let d : Lies = (record { ref_ptr = (0, 0); now = [] }, record { ref_ptr = (0, 0); now = [] }) in
    let within : c.loop-word.word-index < length c.deref-word-items.result.now = c.loop-word-test.true in
    let found = c.in_ok-made-2.ensures.ok in
    c.loop-word.invariant full
    (filled_next c.deref-word-items.result.now c.loop-word.word-index d (string_bytes c.loop-word.made) (string_bytes c.in_ok-made-2.made) full within
    (subst (λ (t : List ℕ). IsReplaced (get_or c.deref-word-items.result.now c.loop-word.word-index d).0.now (get_or c.deref-word-items.result.now c.loop-word.word-index d).1.now t (string_bytes c.in_ok-made-2.made)) c.deref.ensures
    (found.0, replaced_text (get_or c.deref-word-items.result.now c.loop-word.word-index d).0 (get_or c.deref-word-items.result.now c.loop-word.word-index d).1.now found.0 c.deref.result.now (string_bytes c.in_ok-made-2.made) found.1)) h)

pub returns : goal.returns
returns c =
    let past : length c.deref-word-items.result.now ≤ c.loop-word.word-index = c.loop-word-test.false in
    c.loop-word.invariant (string_bytes c.loop-word.made)
    (subst (λ (l : List Lies). IsFilled (map seen l) (string_bytes c.loop-word.made) (string_bytes c.loop-word.made)) (sym (drop_all c.loop-word.word-index c.deref-word-items.result.now past)) refl)
