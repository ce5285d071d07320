-- Words, one after another, and the first mark in a line.
use Rattle.std.proofs.Common.{◌≡◌, ◌≢◌, ◌∙◌, inl, inr, ℕ, zero, suc, ◌+◌, ◌<◌, ◌≤◌, Bool, true, false, ◌||◌, cond, List, [], ◌∷◌, ◌++◌, length, take, drop, map, filter, codes, append-nil, IfSome, IfNone, Option, Some, None, Bor, arith, refl, sym, ap, subst, get_or, drop-cons, add-one}
use Rattle.std.specs.List.{slice_get, slice_set}
use Rattle.std.specs.Option.{MatchOption, unwrap_or}
use Rattle.std.specs.Str.{bytes_eq}
use Rattle.std.specs.Str.Pattern.{FindsText}
use Rattle.std.specs.Str.Replace.{ReplacesFirstMatches, ReplacesMatches}
use Rattle.std.proofs.Math.Seq.{take-suc}
use Rattle.std.proofs.lemmas.List.{drop_at, map-append}
use Rattle.std.proofs.lemmas.List.Elements.{filter-append}
use Rattle.std.proofs.lemmas.Bool.{cases_lt}
use Rattle.std.proofs.lemmas.Str.Pattern.{split_text_parts}
use Rattle.cases.specs.Words.{AreWordsOf, gives_word, has_word, IsCut, IsDefinition, IsFilled, IsReplaced, IsTrimmed, IsWordOf, Lacks, with_text}

-- a word with its text, as it lies in memory
abbrev pub Lies : Type 0
Lies = Bor (List ℕ) × Bor (List ℕ)

-- a word with its text
abbrev pub seen : Lies → List ℕ × List ℕ
seen w = (w.0.now, w.1.now)

-- what a text in memory is
abbrev pub shown : Bor (List ℕ) → List ℕ
shown text = text.now

-- where a mark stands after a front, it doesn't stand first behind that front
pub first_mark : (mark s : List ℕ) (i : ℕ) → ((k : ℕ) → k < i → (rest : List ℕ) → drop k s ≡ mark ++ rest → ⊥) → (before after : List ℕ) → s ≡ before ++ (mark ++ after) → i ≤ length before
first_mark mark s i lacks before after e = elim (cases_lt (length before) i) [
  | inl lt ↦ absurd (lacks (length before) lt after (ap (drop (length before)) e ∙ drop_at before (mark ++ after) (length before) refl))
  | inr le ↦ le
]

-- a text is cut where a mark first stands, where it stands somewhere
pub cut_first : (mark s : List ℕ) (r : Option Lies) → MatchOption r (FindsText mark s None) (λ (x : Lies). (i : ℕ) × (j : ℕ) × FindsText mark s (Some (i, j)) × (x.0.now ≡ take i s) × (x.1.now ≡ drop j s) × (i ≤ j) × (length x.0.now ≡ i) × (length x.1.now + j ≡ length s)) → IfSome r (λ (x : Lies). IsCut mark s x.0.now x.1.now)
cut_first mark s None h = tt
cut_first mark s (Some x) h = record {
  parts = split_text_parts mark s (Some x) h;
  first = λ front rest e. let least = first_mark mark s h.0 h.2.0 front rest e in omega (arith, h);
}

-- and lacks the mark where it is not cut
pub lacks_mark : (mark s : List ℕ) (r : Option Lies) → MatchOption r (FindsText mark s None) (λ (x : Lies). (i : ℕ) × (j : ℕ) × FindsText mark s (Some (i, j)) × (x.0.now ≡ take i s) × (x.1.now ≡ drop j s) × (i ≤ j) × (length x.0.now ≡ i) × (length x.1.now + j ≡ length s)) → IfNone r (Lacks mark s)
lacks_mark mark s None h = split_text_parts mark s None h
lacks_mark mark s (Some x) h = tt

-- a text less one blank, or as it is where it begins with none
pub less_blank : (rest t : Bor (List ℕ)) (r : Option (Bor (List ℕ))) → MatchOption r ((more : List ℕ) → rest.now ≢ 32 ∷ more) (λ (x : Bor (List ℕ)). rest.now ≡ 32 ∷ x.now) → t ≡ unwrap_or r rest → IsTrimmed rest.now t.now
less_blank rest t None h e = inr (h, ap (λ (b : Bor (List ℕ)). b.now) e)
less_blank rest t (Some x) h e = inl (h ∙ ap (λ (b : Bor (List ℕ)). 32 ∷ b.now) (sym e))

-- what is replaced at a pattern in memory is replaced at its text
pub replaced_text : (p : Bor (List ℕ)) (to : List ℕ) (n : ℕ) (s out : List ℕ) → ReplacesMatches (λ (q : Bor (List ℕ)). FindsText q.now) (λ (q r : Bor (List ℕ)). r.now ≡ q.now) to n p s out → ReplacesMatches FindsText (λ (a b : List ℕ). b ≡ a) to n p.now s out
replaced_text p to zero s out h = h
replaced_text p to (suc n) s out (a, b, q, rest, finds, keeps, on, is) = (
  a,
  b,
  q.now,
  rest,
  finds,
  keeps,
  elim on [
    | inl (lt, h) ↦ inl (lt, replaced_text q to n (drop b s) rest h)
    | inr (eq, more) ↦ inr (
      eq,
      elim more [
        | inl end ↦ inl end
        | inr (c, t, m, front, h, e) ↦ inr (c, t, m, front, replaced_text q to n t m h, e)
      ],
    )
  ],
  is,
)

-- a word that is none of those before a place, nor the one there, is none of those up to it
pub absent_next : (ws : List Lies) (i : ℕ) (w : Lies) (word : List ℕ) → slice_get ws i ≡ Some w → bytes_eq w.0.now word ≡ false → has_word (map seen (take i ws)) word ≡ false → has_word (map seen (take (i + 1) ws)) word ≡ false
absent_next ws i w word at other before = rw (add-one i) (go ws i at before)
  where
    go : (vs : List Lies) (j : ℕ) → slice_get vs j ≡ Some w → has_word (map seen (take j vs)) word ≡ false → has_word (map seen (take (suc j) vs)) word ≡ false
    go [] j at before = cc
    go (v ∷ vs) zero at before = let q : v ≡ w = cc in rw q (rw other refl)
    go (v ∷ vs) (suc j) at before = elim (bytes_eq v.0.now word) as (λ b. (b || has_word (map seen (take j vs)) word ≡ false) → (b || has_word (map seen (take (suc j) vs)) word ≡ false)) [ true ↦ λ e. e | false ↦ λ e. go vs j at e ] before

-- a word that stands at a place, and not before it, is among the words
pub known_at : (ws : List Lies) (i : ℕ) (w : Lies) (word : List ℕ) → slice_get ws i ≡ Some w → bytes_eq w.0.now word ≡ true → has_word (map seen ws) word ≡ true
known_at [] i w word at same = cc
known_at (v ∷ vs) zero w word at same = let q : v ≡ w = cc in rw q (rw same refl)
known_at (v ∷ vs) (suc i) w word at same = elim (bytes_eq v.0.now word) as (λ b. b || has_word (map seen vs) word ≡ true) [ true ↦ refl | false ↦ known_at vs i w word at same ]

-- and that place alone gets the text
pub text_at : (ws : List Lies) (i : ℕ) (w new : Lies) (word text : List ℕ) → slice_get ws i ≡ Some w → bytes_eq w.0.now word ≡ true → has_word (map seen (take i ws)) word ≡ false → seen new ≡ (w.0.now, text) → map seen (slice_set ws i new) ≡ with_text (map seen ws) word text
text_at [] i w new word text at same before is = cc
text_at (v ∷ vs) zero w new word text at same before is = let q : v ≡ w = cc in rw q (rw same (ap (λ (p : List ℕ × List ℕ). p ∷ map seen vs) is))
text_at (v ∷ vs) (suc i) w new word text at same before is = elim (bytes_eq v.0.now word) as (λ b. (b || has_word (map seen (take i vs)) word ≡ false) → seen v ∷ map seen (slice_set vs i new) ≡ cond b ((v.0.now, text) ∷ map seen vs) (seen v ∷ with_text (map seen vs) word text)) [ true ↦ λ e. absurd (cc) | false ↦ λ e. ap (λ (l : List (List ℕ × List ℕ)). seen v ∷ l) (text_at vs i w new word text at same e is) ] before

-- a word that isn't there leaves all texts as they are
pub text_nowhere : (ws : List Lies) (word text : List ℕ) → has_word (map seen ws) word ≡ false → map seen ws ≡ with_text (map seen ws) word text
text_nowhere [] word text absent = refl
text_nowhere (v ∷ vs) word text absent = elim (bytes_eq v.0.now word) as (λ b. (b || has_word (map seen vs) word ≡ false) → seen v ∷ map seen vs ≡ cond b ((v.0.now, text) ∷ map seen vs) (seen v ∷ with_text (map seen vs) word text)) [ true ↦ λ e. absurd (cc) | false ↦ λ e. ap (λ (l : List (List ℕ × List ℕ)). seen v ∷ l) (text_nowhere vs word text e) ] absent

-- one word is replaced, and then those after it
pub filled_next : (ws : List Lies) (i : ℕ) (d : Lies) (made next full : List ℕ) → i < length ws → IsReplaced (get_or ws i d).0.now (get_or ws i d).1.now made next → IsFilled (map seen (drop (i + 1) ws)) next full → IsFilled (map seen (drop i ws)) made full
filled_next ws i d made next full within replaced rest =
    subst (λ (l : List Lies). IsFilled (map seen l) made full) (sym (drop-cons ws i d within))
    (next, replaced, subst (λ (k : ℕ). IsFilled (map seen (drop k ws)) next full) (add-one i) rest)

-- the same of the first of them
pub replaced_first : (p : Bor (List ℕ)) (to : List ℕ) (n : ℕ) (s out : List ℕ) → ReplacesFirstMatches (λ (q : Bor (List ℕ)). FindsText q.now) (λ (q r : Bor (List ℕ)). r.now ≡ q.now) to n p s out → ReplacesFirstMatches FindsText (λ (a b : List ℕ). b ≡ a) to n p.now s out
replaced_first p to zero s out h = h
replaced_first p to (suc n) s out (inl none) = inl none
replaced_first p to (suc n) s out (inr (a, b, q, rest, finds, keeps, on, is)) =
    inr (
      a,
      b,
      q.now,
      rest,
      finds,
      keeps,
      elim on [
        | inl (lt, h) ↦ inl (lt, replaced_first q to n (drop b s) rest h)
        | inr (eq, more) ↦ inr (
          eq,
          elim more [
            | inl end ↦ inl end
            | inr (c, t, m, front, h, e) ↦ inr (c, t, m, front, replaced_first q to n t m h, e)
          ],
        )
      ],
      is,
    )

-- another text for a word changes no word
pub same_words : (ws : List (List ℕ × List ℕ)) (word text other : List ℕ) → has_word (with_text ws word text) other ≡ has_word ws other
same_words [] word text other = refl
same_words (w ∷ ws) word text other = elim (bytes_eq w.0 word) as (λ b. has_word (cond b ((w.0, text) ∷ ws) (w ∷ with_text ws word text)) other ≡ has_word (w ∷ ws) other) [ true ↦ refl | false ↦ ap (λ (b : Bool). bytes_eq w.0 other || b) (same_words ws word text other) ]

-- what is made of a line is its word
pub word_of_line : (line : List ℕ) (r : Option Lies) (other made : Lies) → IfSome r (λ (p : Lies). IsDefinition line p.0.now p.1.now) → IfNone r (Lacks (codes " =") line) → seen other ≡ (line, []) → made ≡ unwrap_or r other → IsWordOf line (seen made)
word_of_line line None other made some none alone is = inr (none, ap seen is ∙ alone)
word_of_line line (Some p) other made some none alone is = inl (subst (λ (w : Lies). IsDefinition line w.0.now w.1.now) (sym is) some)

-- one word more
words_next : (lines : List (List ℕ)) (words : List (List ℕ × List ℕ)) (line : List ℕ) (word : List ℕ × List ℕ) → AreWordsOf lines words → IsWordOf line word → AreWordsOf (lines ++ line ∷ []) (words ++ word ∷ [])
words_next [] [] line word are is = (is, tt)
words_next [] (w ∷ ws) line word are is = absurd are
words_next (l ∷ ls) [] line word are is = absurd are
words_next (l ∷ ls) (w ∷ ws) line word are is = (are.0, words_next ls ws line word are.1 is)

-- the lines that give words, up to the next place
giving_next : (lines : List (Bor (List ℕ))) (i : ℕ) (d : Bor (List ℕ)) → i < length lines → filter gives_word (map shown (take (i + 1) lines)) ≡ filter gives_word (map shown (take i lines)) ++ filter gives_word ((get_or lines i d).now ∷ [])
giving_next lines i d within =
    ap (λ (k : ℕ). filter gives_word (map shown (take k lines))) (add-one i)
    ∙ ap (λ (l : List (Bor (List ℕ))). filter gives_word (map shown l)) (take-suc lines i d within)
    ∙ ap (filter gives_word) (map-append shown (take i lines) (get_or lines i d ∷ []))
    ∙ filter-append gives_word (map shown (take i lines)) ((get_or lines i d).now ∷ [])

-- a line that gives no word adds none
pub words_skip : (lines : List (Bor (List ℕ))) (i : ℕ) (d : Bor (List ℕ)) (words : List (List ℕ × List ℕ)) → i < length lines → gives_word (get_or lines i d).now ≡ false → AreWordsOf (filter gives_word (map shown (take i lines))) words → AreWordsOf (filter gives_word (map shown (take (i + 1) lines))) words
words_skip lines i d words within lacks are =
    let before : List (List ℕ) = filter gives_word (map shown (take i lines)) in
    let is : filter gives_word (map shown (take (i + 1) lines)) ≡ before = giving_next lines i d within ∙ ap (λ (b : Bool). before ++ cond b ((get_or lines i d).now ∷ []) []) lacks ∙ append-nil before in
    subst (λ (l : List (List ℕ)). AreWordsOf l words) (sym is) are

-- a line that gives a word adds that
pub words_more : (lines : List (Bor (List ℕ))) (i : ℕ) (d : Bor (List ℕ)) (items : List Lies) (made : Lies) → i < length lines → gives_word (get_or lines i d).now ≡ true → AreWordsOf (filter gives_word (map shown (take i lines))) (map seen items) → IsWordOf (get_or lines i d).now (seen made) → AreWordsOf (filter gives_word (map shown (take (i + 1) lines))) (map seen (items ++ made ∷ []))
words_more lines i d items made within gives are word =
    let before : List (List ℕ) = filter gives_word (map shown (take i lines)) in
    let line : List ℕ = (get_or lines i d).now in
    let is : filter gives_word (map shown (take (i + 1) lines)) ≡ before ++ line ∷ [] = giving_next lines i d within ∙ ap (λ (b : Bool). before ++ cond b (line ∷ []) []) gives in
    subst (λ (l : List (List ℕ)). AreWordsOf l (map seen (items ++ made ∷ []))) (sym is)
    (subst (λ (l : List (List ℕ × List ℕ)). AreWordsOf (before ++ line ∷ []) l) (sym (map-append seen items (made ∷ []))) (words_next before (map seen items) line (seen made) are word))
