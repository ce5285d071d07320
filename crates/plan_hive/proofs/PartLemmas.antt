-- How paths are cut into parts, and which parts are hive columns.
use Rattle.std.proofs.Common.{◌≡◌, ◌+◌, ◌<◌, ℕ, suc, Bool, true, false, cond, not, ◌&&◌, ◌||◌, ◌==◌, nat_lt, nat_le, List, [], ◌∷◌, ◌++◌, length, take, drop, get_or, Option, None, Some, filter_map, refl, sym, ap, ◌∙◌, arith, add-one, append_assoc, subst}
use Rattle.std.specs.List.{cons_option, position_or_len, before_first, after_first}
use Rattle.std.specs.Str.{IsCharBoundary, IsUtf8, is_utf8}
use Rattle.std.proofs.lemmas.List.{get_or_past}
use Rattle.std.proofs.lemmas.Str.{IsUtf8-from_is_utf8, is_utf8-from_IsUtf8, IsUtf8-drop, IsCharBoundary-after_ascii}
use borrow.Author.Tests.{eqb-true, leb-true, ltb-true, ltb-false, le-leb}
use Rattle.percent_encoding.specs.Percent.{percent_decode}
use Rattle.plan_hive.specs.Parts.{Text, HivePart, folders, has_byte, hive_part, may_cut, under, value_of}

-- how many bytes stand before the first of this value
abbrev pub before : ℕ → Text → ℕ
before b text = position_or_len (λ c. c == b) text

-- a byte that stands first nowhere stands nowhere
pub absent-byte : (b : ℕ) (text : Text) → before b text ≡ length text → has_byte b text ≡ false
absent-byte b [] h = refl
absent-byte b (c ∷ cs) h = at (absent-byte b cs) (c == b) refl h
  where
    at : (before b cs ≡ length cs → has_byte b cs ≡ false) → (t : Bool) → (c == b) ≡ t → cond (not t) (1 + before b cs) 0 ≡ suc (length cs) → ((c == b) || has_byte b cs) ≡ false
    at rest true q e = absurd (omega arith)
    at rest false q e = rw q (rest (omega arith))

-- a byte that stands at a place stands somewhere
pub present-byte : (b : ℕ) (text : Text) → before b text < length text → has_byte b text ≡ true
present-byte b [] h = absurd (omega arith)
present-byte b (c ∷ cs) h = at (present-byte b cs) (c == b) refl h
  where
    at : (before b cs < length cs → has_byte b cs ≡ true) → (t : Bool) → (c == b) ≡ t → cond (not t) (1 + before b cs) 0 < suc (length cs) → ((c == b) || has_byte b cs) ≡ true
    at rest true q e = rw q refl
    at rest false q e = rw q (rest (omega arith))

-- without a slash there is no folder
pub folders-end : (text : Text) → before 47 text ≡ length text → folders text ≡ []
folders-end [] h = refl
folders-end (c ∷ cs) h = at (folders-end cs) (c == 47) refl h
  where
    at : (before 47 cs ≡ length cs → folders cs ≡ []) → (t : Bool) → (c == 47) ≡ t → cond (not t) (1 + before 47 cs) 0 ≡ suc (length cs) → cond (c == 47) ([] ∷ folders cs) (under c (folders cs)) ≡ []
    at rest true q e = absurd (omega arith)
    at rest false q e = rw q (ap (under c) (rest (omega arith)))

-- up to the first slash is the first folder
pub folders-cut : (text : Text) → before 47 text < length text → folders text ≡ take (before 47 text) text ∷ folders (drop (suc (before 47 text)) text)
folders-cut [] h = absurd (omega arith)
folders-cut (c ∷ cs) h = at (folders-cut cs) (c == 47) refl h
  where
    at : (before 47 cs < length cs → folders cs ≡ take (before 47 cs) cs ∷ folders (drop (suc (before 47 cs)) cs)) → (t : Bool) → (c == 47) ≡ t → cond (not t) (1 + before 47 cs) 0 < suc (length cs) → cond t ([] ∷ folders cs) (under c (folders cs)) ≡ take (cond (not t) (1 + before 47 cs) 0) (c ∷ cs) ∷ folders (drop (suc (cond (not t) (1 + before 47 cs) 0)) (c ∷ cs))
    at rest true q e = refl
    at rest false q e = let one : suc (before 47 cs) ≡ 1 + before 47 cs = omega arith in ap (under c) (rest (omega arith)) ∙ ap (λ (n : ℕ). take n (c ∷ cs) ∷ folders (drop (suc n) (c ∷ cs))) one

-- the same in the words of a cut
pub folders-next : (text folder more : Text) → before 47 text < length text → folder ≡ before_first (λ c. c == 47) text → more ≡ after_first (λ c. c == 47) text → folders text ≡ folder ∷ folders more
folders-next text folder more h e f =
    folders-cut text h ∙ ap (λ (x : Text). x ∷ folders (drop (suc (before 47 text)) text)) (sym e) ∙ ap (λ (x : Text). folder ∷ folders x) (ap (λ (n : ℕ). drop n text) (sym (add-one (before 47 text))) ∙ sym f)

-- a text may be cut at the boundaries of its characters
pub may_cut-there : (text : Text) (i : ℕ) → IsCharBoundary text i → may_cut i text ≡ true
may_cut-there text i h = rw (le-leb i (length text) h.0) (at (nat_lt i (length text)) refl)
  where
    at : (t : Bool) → nat_lt i (length text) ≡ t → (nat_lt (get_or text i 0) 128 || nat_le 192 (get_or text i 0)) ≡ true
    at true q = inside (nat_lt (get_or text i 0) 128) refl
      where
        inside : (t : Bool) → nat_lt (get_or text i 0) 128 ≡ t → (t || nat_le 192 (get_or text i 0)) ≡ true
        inside true e = refl
        inside false e = le-leb 192 (get_or text i 0) (h.1 (ltb-true i (length text) q) (ltb-false (get_or text i 0) 128 e))
    at false q = ap (λ (b : ℕ). nat_lt b 128 || nat_le 192 b) (get_or_past text i 0 (ltb-false i (length text) q))

-- and nowhere else
pub may_cut-nowhere : (text : Text) (i : ℕ) → (IsCharBoundary text i → ⊥) → may_cut i text ≡ false
may_cut-nowhere text i h = at (nat_le i (length text)) refl (nat_lt (get_or text i 0) 128) refl (nat_le 192 (get_or text i 0)) refl
  where
    at : (t : Bool) → nat_le i (length text) ≡ t → (u : Bool) → nat_lt (get_or text i 0) 128 ≡ u → (v : Bool) → nat_le 192 (get_or text i 0) ≡ v → (t && (u || v)) ≡ false
    at false q u r v s = refl
    at true q true r v s = absurd (h (leb-true i (length text) q, λ within big. let small = ltb-true (get_or text i 0) 128 r in absurd (omega arith)))
    at true q false r true s = absurd (h (leb-true i (length text) q, λ within big. leb-true 192 (get_or text i 0) s))
    at true q false r false s = refl

-- the byte before which a text is cut stands there
stands : (b : ℕ) (text : Text) → before b text < length text → get_or text (before b text) 0 ≡ b
stands b [] h = absurd (omega arith)
stands b (c ∷ cs) h = at (stands b cs) (c == b) refl h
  where
    at : (before b cs < length cs → get_or cs (before b cs) 0 ≡ b) → (t : Bool) → (c == b) ≡ t → cond (not t) (1 + before b cs) 0 < suc (length cs) → get_or (c ∷ cs) (cond (not t) (1 + before b cs) 0) 0 ≡ b
    at rest true q e = eqb-true c b q
    at rest false q e = let one : suc (before b cs) ≡ 1 + before b cs = omega arith in ap (λ (n : ℕ). get_or (c ∷ cs) n 0) (sym one) ∙ rest (omega arith)

-- what stands behind a slash is text
pub text-behind : (text more : Text) → IsUtf8 text → before 47 text < length text → more ≡ after_first (λ c. c == 47) text → IsUtf8 more
text-behind text more u cut is =
    let small : get_or text (before 47 text) 0 < 128 = let e = stands 47 text cut in omega (arith, e) in
    subst IsUtf8 (sym is) (IsUtf8-drop text (before 47 text + 1) u (IsCharBoundary-after_ascii text (before 47 text) u cut small))

-- a part without `=` is no hive column
pub no-equals : (part : Text) → before 61 part ≡ length part → None ≡ hive_part part
no-equals part h = rw (absent-byte 61 part h) refl

module _ (part name value : Text) (cut : before 61 part < length part) (name-is : name ≡ before_first (λ c. c == 61) part) (value-is : value ≡ after_first (λ c. c == 61) part) where
  -- what stands behind the `=` has no other
  pub two-equals : has_byte 61 value ≡ true → None ≡ hive_part part
  two-equals h = let second : has_byte 61 (after_first (λ c. c == 61) part) ≡ true = ap (has_byte 61) (sym value-is) ∙ h in rw (present-byte 61 part cut, second) refl

  -- and no `*`
  pub star-behind : has_byte 61 value ≡ false → has_byte 42 value ≡ true → None ≡ hive_part part
  star-behind h s =
      let second : has_byte 61 (after_first (λ c. c == 61) part) ≡ false = ap (has_byte 61) (sym value-is) ∙ h in
      let star : has_byte 42 (after_first (λ c. c == 61) part) ≡ true = ap (has_byte 42) (sym value-is) ∙ s in
      rw (present-byte 61 part cut, second, star) refl

  -- and is UTF-8 once it is decoded
  pub not-text : has_byte 61 value ≡ false → has_byte 42 value ≡ false → (IsUtf8 (percent_decode value) → ⊥) → None ≡ hive_part part
  not-text h s u =
      let second : has_byte 61 (after_first (λ c. c == 61) part) ≡ false = ap (has_byte 61) (sym value-is) ∙ h in
      let star : has_byte 42 (after_first (λ c. c == 61) part) ≡ false = ap (has_byte 42) (sym value-is) ∙ s in
      let text : is_utf8 (percent_decode (after_first (λ c. c == 61) part)) ≡ false = ap (λ (x : Text). is_utf8 (percent_decode x)) (sym value-is) ∙ at (is_utf8 (percent_decode value)) refl in
      rw (present-byte 61 part cut, second, star, text) refl
    where
      at : (t : Bool) → is_utf8 (percent_decode value) ≡ t → t ≡ false
      at true q = absurd (u (IsUtf8-from_is_utf8 (percent_decode value) q))
      at false q = refl

  -- then it is a hive column
  pub is-column : has_byte 61 value ≡ false → has_byte 42 value ≡ false → IsUtf8 (percent_decode value) → (v : Option Text) → v ≡ value_of (percent_decode value) → Some (name, v) ≡ hive_part part
  is-column h s u v e =
      let second : has_byte 61 (after_first (λ c. c == 61) part) ≡ false = ap (has_byte 61) (sym value-is) ∙ h in
      let star : has_byte 42 (after_first (λ c. c == 61) part) ≡ false = ap (has_byte 42) (sym value-is) ∙ s in
      let text : is_utf8 (percent_decode (after_first (λ c. c == 61) part)) ≡ true = ap (λ (x : Text). is_utf8 (percent_decode x)) (sym value-is) ∙ is_utf8-from_IsUtf8 (percent_decode value) u in
      rw (present-byte 61 part cut, second, star, text) (ap (λ (x : Text). Some (x, v)) name-is ∙ ap (λ (x : Option Text). Some (before_first (λ c. c == 61) part, x)) (e ∙ ap (λ (x : Text). value_of (percent_decode x)) value-is))

-- the columns of what is left, once the first folder is read
module _ (parts whole : List HivePart) (rest folder more : Text) (cut : before 47 rest < length rest) (folder-is : folder ≡ before_first (λ c. c == 47) rest) (more-is : more ≡ after_first (λ c. c == 47) rest) (h : parts ++ filter_map hive_part (folders rest) ≡ whole) where
  pub folder-kept : (part : HivePart) → Some part ≡ hive_part folder → (parts ++ part ∷ []) ++ filter_map hive_part (folders more) ≡ whole
  folder-kept part e =
      append_assoc parts (part ∷ []) (filter_map hive_part (folders more))
      ∙ ap (λ (o : Option HivePart). parts ++ cons_option o (filter_map hive_part (folders more))) e
      ∙ ap (λ (x : List Text). parts ++ filter_map hive_part x) (sym (folders-next rest folder more cut folder-is more-is)) ∙ h

  pub folder-passed : None ≡ hive_part folder → parts ++ filter_map hive_part (folders more) ≡ whole
  folder-passed e =
      ap (λ (o : Option HivePart). parts ++ cons_option o (filter_map hive_part (folders more))) e
      ∙ ap (λ (x : List Text). parts ++ filter_map hive_part x) (sym (folders-next rest folder more cut folder-is more-is)) ∙ h
