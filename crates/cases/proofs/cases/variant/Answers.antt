use Rattle.std.proofs.Common.{◌≡◌, ◌∙◌, ℕ, List, IsTrue, false, string_bytes, sym, ap, subst}
use Rattle.std.specs.Str.Pattern.{FindsText}
use Rattle.std.specs.Str.Replace.{ReplacesFirstMatches}
use Rattle.std.proofs.lemmas.Result.{IfOk-weaker}
use Rattle.std.proofs.lemmas.Slice.Eq.{bytes_eq-Decides}
use Rattle.plan_doc.specs.Document.{doc_of}
use Rattle.cases.specs.Cases.IsVaried.{pieces}
use Rattle.cases.specs.Readings.{word_of}
use Rattle.cases.proofs.WordLemmas.{replaced_first}
use Rattle.cases.proofs.cases.variant.Goals as goal

pub returns-then-eq : goal.returns-then-eq
returns-then-eq c = pieces c.in-Some.old.now c.in-Some.rest.now c.in-Some.ensures.parts (record {
  new = c.trimmed-new.result.now;
  given = string_bytes c.in_ok-given.given;
  document = string_bytes c.in_ok-document.document;
  trimmed = c.trimmed-new.ensures;
  filled = c.in_ok-given.ensures;
  replaced = subst (λ (s : List ℕ). ReplacesFirstMatches FindsText (λ (a b : List ℕ). b ≡ a) c.trimmed-new.result.now 1 c.in-Some.old.now s (string_bytes c.in_ok-document.document)) c.deref.ensures
      (replaced_first c.in-Some.old c.trimmed-new.result.now 1 c.deref.result.now (string_bytes c.in_ok-document.document) c.in_ok-document.ensures.ok);
  is = (λ (h : IsTrue false). absurd (cc), λ h. absurd (h.0 ((bytes_eq-Decides (string_bytes c.in_ok-document.document) (string_bytes c.in_ok-given.given)).0 (sym c.if-eq.ensures))));
})

pub returns : goal.returns
returns c = IfOk-weaker c.reads_as.result _ _ (λ right read. pieces c.in-Some.old.now c.in-Some.rest.now c.in-Some.ensures.parts (record {
  new = c.trimmed-new.result.now;
  given = string_bytes c.in_ok-given.given;
  document = string_bytes c.in_ok-document.document;
  trimmed = c.trimmed-new.ensures;
  filled = c.in_ok-given.ensures;
  replaced = subst (λ (s : List ℕ). ReplacesFirstMatches FindsText (λ (a b : List ℕ). b ≡ a) c.trimmed-new.result.now 1 c.in-Some.old.now s (string_bytes c.in_ok-document.document)) c.deref.ensures
      (replaced_first c.in-Some.old c.trimmed-new.result.now 1 c.deref.result.now (string_bytes c.in_ok-document.document) c.in_ok-document.ensures.ok);
  is = (
    λ h. (λ same. let equal = (bytes_eq-Decides (string_bytes c.in_ok-document.document) (string_bytes c.in_ok-given.given)).1 same in cc (equal, c.if-eq.ensures), read.0 h ∙ ap (λ (s : List ℕ). word_of (doc_of s)) c.deref-2.ensures),
    λ h. read.1 (h.1 ∙ sym (ap (λ (s : List ℕ). word_of (doc_of s)) c.deref-2.ensures)),
  );
})) c.reads_as.ensures
