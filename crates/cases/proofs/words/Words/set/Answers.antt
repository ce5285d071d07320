use Rattle.std.proofs.Common.{◌≡◌, ◌∙◌, ◌<◌, ◌≤◌, false, List, ℕ, length, map, Some, ap, sym, rules}
use Rattle.std.proofs.lemmas.List.{get_or_default, take_all}
use Rattle.std.proofs.lemmas.Option.{slice_get-get_or}
use Rattle.cases.specs.Words.{has_word, with_text}
use Rattle.cases.specs.declared.words.Words.TheInside.{Inside}
use Rattle.cases.proofs.WordLemmas.{Lies, absent_next, known_at, seen, text_at, text_nowhere}
use Rattle.cases.proofs.words.Words.set.Goals as goal

pub loop-at-preserved : goal.loop-at-preserved
loop-at-preserved c =
    let within : c.loop-at.at < length c.loop-at.self-inside.words.items = search rules in
    record {
      same = c.loop-at.invariant.same;
      absent = absent_next c.loop-at.self-inside.words.items c.loop-at.at c.index.result.now c.args.word.now
          (slice_get-get_or c.loop-at.self-inside.words.items c.loop-at.at c.index.result.now within ∙ ap Some (sym c.index.ensures))
          (sym c.if-eq.ensures) c.loop-at.invariant.absent;
    }

pub returns-then-eq-clause-known : goal.returns-then-eq-clause-known
returns-then-eq-clause-known c =
    let within : c.loop-at.at < length c.loop-at.self-inside.words.items = search rules in
    let is : map seen c.loop-at.self-inside.words.items ≡ c.args.self.now = ap (λ (s : Inside). map seen s.words.items) c.loop-at.invariant.same ∙ c.self.view_is in
    sym (known_at c.loop-at.self-inside.words.items c.loop-at.at c.index.result.now c.args.word.now
    (slice_get-get_or c.loop-at.self-inside.words.items c.loop-at.at c.index.result.now within ∙ ap Some (sym c.index.ensures))
    (sym c.if-eq.ensures))
    ∙ ap (λ (l : List (List ℕ × List ℕ)). has_word l c.args.word.now) is

pub returns-then-eq-clause-texts : goal.returns-then-eq-clause-texts
returns-then-eq-clause-texts c =
    let within : c.loop-at.at < length c.loop-at.self-inside.words.items = search rules in
    let is : map seen c.loop-at.self-inside.words.items ≡ c.args.self.now = ap (λ (s : Inside). map seen s.words.items) c.loop-at.invariant.same ∙ c.self.view_is in
    let one : c.index_mut.result.now ≡ c.index.result.now = c.index_mut.ensures.value ∙ get_or_default c.loop-at.self-inside.words.items c.loop-at.at c.index_mut.result.now c.index.result.now within ∙ sym c.index.ensures in
    text_at c.loop-at.self-inside.words.items c.loop-at.at c.index.result.now (c.index_mut.result.now.0, c.args.text) c.args.word.now c.args.text.now
    (slice_get-get_or c.loop-at.self-inside.words.items c.loop-at.at c.index.result.now within ∙ ap Some (sym c.index.ensures))
    (sym c.if-eq.ensures) c.loop-at.invariant.absent (ap (λ (w : Lies). (w.0.now, c.args.text.now)) one)
    ∙ ap (λ (l : List (List ℕ × List ℕ)). with_text l c.args.word.now c.args.text.now) is

pub returns-clause-known : goal.returns-clause-known
returns-clause-known c =
    let past : length c.loop-at.self-inside.words.items ≤ c.loop-at.at = search rules in
    let is : map seen c.loop-at.self-inside.words.items ≡ c.args.self.now = ap (λ (s : Inside). map seen s.words.items) c.loop-at.invariant.same ∙ c.self.view_is in
    sym c.loop-at.invariant.absent
    ∙ ap (λ (l : List Lies). has_word (map seen l) c.args.word.now) (take_all c.loop-at.at c.loop-at.self-inside.words.items past)
    ∙ ap (λ (l : List (List ℕ × List ℕ)). has_word l c.args.word.now) is

pub returns-clause-texts : goal.returns-clause-texts
returns-clause-texts c =
    let past : length c.loop-at.self-inside.words.items ≤ c.loop-at.at = search rules in
    let is : map seen c.loop-at.self-inside.words.items ≡ c.args.self.now = ap (λ (s : Inside). map seen s.words.items) c.loop-at.invariant.same ∙ c.self.view_is in
    let absent : has_word (map seen c.loop-at.self-inside.words.items) c.args.word.now ≡ false =
    ap (λ (l : List Lies). has_word (map seen l) c.args.word.now) (sym (take_all c.loop-at.at c.loop-at.self-inside.words.items past)) ∙ c.loop-at.invariant.absent in
    text_nowhere c.loop-at.self-inside.words.items c.args.word.now c.args.text.now absent
    ∙ ap (λ (l : List (List ℕ × List ℕ)). with_text l c.args.word.now c.args.text.now) is
