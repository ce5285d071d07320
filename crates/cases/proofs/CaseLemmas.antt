-- What is found of the cases of each verb.
use Rattle.std.proofs.Common.{◌≡◌, ◌≢◌, ◌↔◌, ◌∙◌, ℕ, zero, suc, ◌+◌, ◌==◌, Bool, true, false, IsTrue, MatchBool, List, [], ◌∷◌, ◌++◌, take, codes, Some, Bor, refl, sym, ap, subst, add-one}
use Rattle.std.specs.List.{slice_get, slice_index}
use Rattle.std.proofs.lemmas.Bool.{eq-eqb, eqb-true}
use Rattle.cases.specs.declared.cases.Line.{Line}
use Rattle.cases.specs.declared.cases.Line.TheVariants.{Right, Wrong}
use Rattle.cases.specs.Cases.IsRead.{tried}
use Rattle.cases.specs.Cases.{after_word, AreRead, AreRefusals, AreValues, first_word, IsJudged, IsRead, Judges, making, Makes, refusal, Under, under}
use Rattle.cases.specs.Words.{has_word, with_text}
use Rattle.cases.proofs.WordLemmas.{same_words}

-- words, each with its text
abbrev Texts : Type 0
Texts = List (List ℕ × List ℕ)

-- a refusal that both commands were tried for
pub refused : (words next : Texts) (told a b d : List ℕ) (checked unpruned pruned later right : Bool) → a ≡ refusal told → b ≡ refusal told → d ≡ refusal told → next ≡ under words (codes "0") → Judges words (codes "check") a checked → Under words (codes "0") (λ (now : Texts). Judges now (codes "optimize") b) unpruned → Under next (codes "1") (λ (now : Texts). Judges now (codes "optimize") d) pruned → IsTrue later ↔ (IsTrue unpruned × IsTrue pruned) → IsTrue right ↔ (IsTrue checked × IsTrue later) → AreRefusals words told right
refused words next told a b d checked unpruned pruned later right ea eb ed en j u v two all = record {
  checked = checked;
  unpruned = unpruned;
  pruned = pruned;
  of_check = subst (λ (x : List ℕ). Judges words (codes "check") x checked) ea j;
  of_unpruned = subst (λ (x : List ℕ). Under words (codes "0") (λ (now : Texts). Judges now (codes "optimize") x) unpruned) eb u;
  of_pruned = subst (λ (w : Texts). Under w (codes "1") (λ (now : Texts). Judges now (codes "optimize") (refusal told)) pruned) en (subst (λ (x : List ℕ). Under next (codes "1") (λ (now : Texts). Judges now (codes "optimize") x) pruned) ed v);
  is = (λ h. let p = all.0 h in let q = two.0 p.1 in (p.0, q.0, q.1), λ h. all.1 (h.0, two.1 (h.1, h.2)));
}

-- the words under which values are tried
pub making_is : (words one two : Texts) (made exprs dtype : List ℕ) → one ≡ with_text words (codes "<exprs>") exprs → two ≡ with_text one (codes "<type>") dtype → dtype ≡ first_word made → two ≡ making words exprs (first_word made)
making_is words one two made exprs dtype eo et ed = et ∙ ap (λ (w : Texts). with_text w (codes "<type>") dtype) eo ∙ ap (λ (t : List ℕ). with_text (with_text words (codes "<exprs>") exprs) (codes "<type>") t) ed

-- values that are tried for without pruning and with it
pub valued : (words one two next : Texts) (made exprs dtype values : List ℕ) (named typed unpruned pruned known later right : Bool) → one ≡ with_text words (codes "<exprs>") exprs → two ≡ with_text one (codes "<type>") dtype → dtype ≡ first_word made → values ≡ after_word made → next ≡ under two (codes "0") → named ≡ has_word words (codes "<exprs>") → typed ≡ has_word one (codes "<type>") → Under two (codes "0") (λ (now : Texts). Makes now dtype values) unpruned → Under next (codes "1") (λ (now : Texts). Makes now dtype values) pruned → IsTrue known ↔ (IsTrue named × IsTrue typed) → IsTrue later ↔ (IsTrue unpruned × IsTrue pruned) → IsTrue right ↔ (IsTrue known × IsTrue later) → AreValues words made exprs right
valued words one two next made exprs dtype values named typed unpruned pruned known later right eo et ed ev en kn kt u v two_known two_later all =
    let is : two ≡ making words exprs (first_word made) = making_is words one two made exprs dtype eo et ed in
    let sort : typed ≡ has_word words (codes "<type>") = kt ∙ ap (λ (w : Texts). has_word w (codes "<type>")) eo ∙ same_words words (codes "<exprs>") exprs (codes "<type>") in
    let plain : (w : Texts) (flags : List ℕ) (r : Bool) → Under w flags (λ (now : Texts). Makes now dtype values) r → Under w flags (λ (now : Texts). Makes now (first_word made) (after_word made)) r =
    λ w flags r h. subst (λ (x : List ℕ). Under w flags (λ (now : Texts). Makes now (first_word made) x) r) ev (subst (λ (x : List ℕ). Under w flags (λ (now : Texts). Makes now x values) r) ed h) in
    record {
      unpruned = unpruned;
      pruned = pruned;
      of_unpruned = subst (λ (w : Texts). Under w (codes "0") (λ (now : Texts). Makes now (first_word made) (after_word made)) unpruned) is (plain two (codes "0") unpruned u);
      of_pruned = subst (λ (w : Texts). Under (under w (codes "0")) (codes "1") (λ (now : Texts). Makes now (first_word made) (after_word made)) pruned) is
          (subst (λ (w : Texts). Under w (codes "1") (λ (now : Texts). Makes now (first_word made) (after_word made)) pruned) en (plain next (codes "1") pruned v));
      is = (
        λ h. let p = all.0 h in let k = two_known.0 p.0 in let l = two_later.0 p.1 in (sym kn ∙ k.0, sym sort ∙ k.1, l.0, l.1),
        λ h. all.1 (two_known.1 (kn ∙ h.0, sort ∙ h.1), two_later.1 (h.2, h.3)),
      );
    }

-- how a line begins
pub first_is : (line : List ℕ) (n : ℕ) → (slice_index line 0 == n) ≡ true → slice_index line 0 ≡ n
first_is line n e = eqb-true (slice_index line 0) n e

pub first_not : (line : List ℕ) (n : ℕ) → (slice_index line 0 == n) ≡ false → slice_index line 0 ≢ n
first_not line n e = λ is. let yes = eq-eqb (slice_index line 0) n is in cc (yes, e)

-- a case that was tried
pub case_tried : (words next : Texts) (line verb rest : List ℕ) (right : Bool) (found : Line) → line ≢ [] → slice_index line 0 ≢ 35 → slice_index line 0 ≢ 60 → verb ≡ first_word line → rest ≡ after_word line → IsJudged words verb rest right next → MatchBool right (found ≡ Right) (found ≡ Wrong) → IsRead words line found next
case_tried words next line verb rest true found some comment word ev er j m = tried some comment word true (subst (λ (v : List ℕ). IsJudged words v (after_word line) true next) ev (subst (λ (r : List ℕ). IsJudged words verb r true next) er j)) m
case_tried words next line verb rest false found some comment word ev er j m = tried some comment word false (subst (λ (v : List ℕ). IsJudged words v (after_word line) false next) ev (subst (λ (r : List ℕ). IsJudged words verb r false next) er j)) m

-- one line more is read, by the texts that those before it left
pub read_next : (words now next : Texts) (lines : List (Bor (List ℕ))) (i : ℕ) (line : Bor (List ℕ)) (found : List Line) (one : Line) → slice_get lines i ≡ Some line → IsRead now line.now one next → AreRead words (take i lines) found now → AreRead words (take (i + 1) lines) (found ++ one ∷ []) next
read_next words now next lines i line found one at is so_far = subst (λ (k : ℕ). AreRead words (take k lines) (found ++ one ∷ []) next) (sym (add-one i)) (go words lines i found at so_far)
  where
    go : (ws : Texts) (ls : List (Bor (List ℕ))) (j : ℕ) (fs : List Line) → slice_get ls j ≡ Some line → AreRead ws (take j ls) fs now → AreRead ws (take (suc j) ls) (fs ++ one ∷ []) next
    go ws [] j fs at so_far = absurd (cc)
    go ws (l ∷ ls) zero [] at so_far = let same : l ≡ line = cc in (next, subst (λ (w : Texts). IsRead w l.now one next) so_far (subst (λ (x : Bor (List ℕ)). IsRead now x.now one next) (sym same) is), refl)
    go ws (l ∷ ls) zero (f ∷ fs) at so_far = absurd so_far
    go ws (l ∷ ls) (suc j) [] at so_far = absurd so_far
    go ws (l ∷ ls) (suc j) (f ∷ fs) at so_far = (so_far.0, so_far.1, go so_far.0 ls j fs at so_far.2)
