-- Texts with commas that get one more, last.
use Rattle.std.proofs.Common.{◌≡◌, ◌∙◌, ◌<◌, ◌+◌, ◌++◌, ◌∷◌, [], List, ℕ, refl, sym, ap, append_assoc, map, take, length, get_or, codes, zero, suc}
use Rattle.std.proofs.lemmas.List.{map-append, take_more}
use Rattle.plan_options.specs.Texts.{separated}

-- one more text behind another
separated-more : (x : List ℕ) (xs : List (List ℕ)) (y : List ℕ) → separated ((x ∷ xs) ++ y ∷ []) ≡ separated (x ∷ xs) ++ codes ", " ++ y
separated-more x [] y = refl
separated-more x (z ∷ xs) y =
    ap (λ (t : List ℕ). x ++ codes ", " ++ t) (separated-more z xs y)
    ∙ sym (append_assoc (x ++ codes ", ") (separated (z ∷ xs) ++ codes ", ") y)
    ∙ ap (λ (t : List ℕ). t ++ y) (sym (append_assoc (x ++ codes ", ") (separated (z ∷ xs)) (codes ", ")))

module _ {X : Type 0} (f : X → List ℕ) where
  behind : (items : List X) (at : ℕ) (y : List ℕ) → at < length items → 0 < at → separated (map f (take at items) ++ y ∷ []) ≡ separated (map f (take at items)) ++ codes ", " ++ y
  behind [] at y inside later = elim inside [ ]
  behind (x ∷ items) zero y inside later = elim later [ ]
  behind (x ∷ items) (suc at) y inside later = separated-more (f x) (map f (take at items)) y

  taken : (items : List X) (at : ℕ) (x : X) → at < length items → x ≡ get_or items at x → map f (take (at + 1) items) ≡ map f (take at items) ++ f x ∷ []
  taken items at x inside is =
      ap (λ (xs : List X). map f xs) (take_more items at x inside)
      ∙ map-append f (take at items) (get_or items at x ∷ [])
      ∙ ap (λ (z : X). map f (take at items) ++ f z ∷ []) (sym is)

  -- the first text
  pub separated-first : (items : List X) (at : ℕ) (x : X) → at < length items → x ≡ get_or items at x → at ≡ 0 → separated (map f (take (at + 1) items)) ≡ separated (map f (take at items)) ++ f x
  separated-first items at x inside is e =
      ap separated (taken items at x inside is)
      ∙ rw e refl

  -- a text behind others
  pub separated-later : (items : List X) (at : ℕ) (x : X) → at < length items → x ≡ get_or items at x → 0 < at → separated (map f (take (at + 1) items)) ≡ separated (map f (take at items)) ++ codes ", " ++ f x
  separated-later items at x inside is later = ap separated (taken items at x inside is) ∙ behind items at (f x) inside later

-- a text behind what was written, where the whole grows by it
pub written : (front old y before after : List ℕ) (new : List ℕ) → before ≡ front ++ old → after ≡ before ++ y → new ≡ old ++ y → after ≡ front ++ new
written front old y before after new b a n = a ∙ ap (λ (t : List ℕ). t ++ y) b ∙ append_assoc front old y ∙ ap (λ (t : List ℕ). front ++ t) (sym n)
