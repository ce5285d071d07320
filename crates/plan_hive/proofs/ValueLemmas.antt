-- The numbers that texts spell, and the types of values.
use Rattle.std.proofs.Common.{◌≡◌, ◌<◌, ◌^◌, ℤ, pos, neg_ℤ, Bool, true, false, ◌&&◌, nat_lt, nat_le, if◌then◌else◌, [], ◌∷◌, length, drop, get_or, None, Some, Result, Ok, Err, refl, ap, arith}
use Rattle.std.specs.Result.{OkIff, result_ok}
use Rattle.std.specs.Str.{all_ascii_digits}
use Rattle.std.specs.Str.Parse.{ParsesSigned, digits_value, starts_with_minus}
use Rattle.std.proofs.lemmas.Str.Parse.{IsNumeralModel, numerals_by_value, tells_all_ascii_digits, parse_signed_minus, parse_signed_plain}
use borrow.Author.Tests.{eqb-true, eqb-false, leb-true, ltb-true, le-leb, lt-ltb}
use mir.Syntax.{w64}
use Rattle.plan_hive.specs.Parts.{Text}
use Rattle.plan_hive.specs.Values.{is_numeral, number_of}

own : IsNumeralModel (λ ds. all_ascii_digits ds ≡ true) (digits_value 10)
own = numerals_by_value _ tells_all_ascii_digits

numeral-from : (ds : Text) → all_ascii_digits ds ≡ true → 0 < length ds → is_numeral ds ≡ true
numeral-from [] h l = absurd (omega arith)
numeral-from (c ∷ cs) h l = h

numeral-to : (ds : Text) → is_numeral ds ≡ true → (all_ascii_digits ds ≡ true) × (0 < length ds)
numeral-to [] h = cc
numeral-to (c ∷ cs) h = (h, omega arith)

both-left : (a b : Bool) → (a && b) ≡ true → a ≡ true
both-left true b h = refl
both-left false b h = cc

both-right : (a b : Bool) → (a && b) ≡ true → b ≡ true
both-right true b h = h
both-right false b h = cc

-- an answer that is Ok exactly where a test holds
by-test : {E : Type 0} (r : Result ℤ E) (Q : Type 0) (x : ℤ) (t : Bool) → OkIff r Q x → (Q → t ≡ true) → (t ≡ true → Q) → result_ok r ≡ (if t then Some x else None)
by-test (Ok y) Q x t h to from = rw (to h.0) (ap (λ (z : ℤ). Some z) h.1)
by-test (Err e) Q x true h to from = absurd (h (from refl))
by-test (Err e) Q x false h to from = refl

-- what is read of a text without `+` is the number that it spells
pub number-parsed : {E : Type 0} (text : Text) (r : Result ℤ E) → ParsesSigned w64 10 text r → (get_or text 0 0 ≡ 43 → ⊥) → result_ok r ≡ number_of text
number-parsed text r h plain = at (starts_with_minus text) refl
  where
    at : (t : Bool) → starts_with_minus text ≡ t → result_ok r ≡ number_of text
    at true q =
        let ds = drop 1 text in
        let is = parse_signed_minus own w64 text r h (eqb-true (get_or text 0 0) 45 q) in
        rw q (by-test r _ (neg_ℤ (pos (digits_value 10 ds))) (is_numeral ds && nat_le (digits_value 10 ds) (2 ^ 63)) is
        (λ f. rw (numeral-from ds f.0 f.1) (le-leb (digits_value 10 ds) (2 ^ 63) f.2))
        (λ f.
        let a = numeral-to ds (both-left (is_numeral ds) (nat_le (digits_value 10 ds) (2 ^ 63)) f) in
        (a.0, a.1, leb-true (digits_value 10 ds) (2 ^ 63) (both-right (is_numeral ds) (nat_le (digits_value 10 ds) (2 ^ 63)) f))))
    at false q =
        let is = parse_signed_plain own w64 text r h plain (eqb-false (get_or text 0 0) 45 q) in
        rw q (by-test r _ (pos (digits_value 10 text)) (is_numeral text && nat_lt (digits_value 10 text) (2 ^ 63)) is
        (λ f. rw (numeral-from text f.0 f.1) (lt-ltb (digits_value 10 text) (2 ^ 63) f.2))
        (λ f.
        let a = numeral-to text (both-left (is_numeral text) (nat_lt (digits_value 10 text) (2 ^ 63)) f) in
        (a.0, a.1, ltb-true (digits_value 10 text) (2 ^ 63) (both-right (is_numeral text) (nat_lt (digits_value 10 text) (2 ^ 63)) f))))
