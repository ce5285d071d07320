-- What passes a test of a list in another order is what passes it of the list, in another order.
use Rattle.std.proofs.Common.{◌<◌, ℕ, zero, suc, Bool, true, false, cond, List, [], ◌∷◌, length, set, get_or, subst, arith}
use Rattle.std.specs.List.{filter as only_where, swap}
use Rattle.std.specs.List.Sorted.{IsPermutation}
use Rattle.std.proofs.lemmas.List.Edits.{swap_is}
use Rattle.std.proofs.lemmas.List.Sorted.{IsPermutation-cons, IsPermutation-keeps, IsPermutation-middle, IsPermutation-refl, IsPermutation-trans}

module _ {X : Type 0} (p : X → Bool) where
  abbrev Alike : List X → List X → Type 0
  Alike xs ys = IsPermutation (only_where p xs) (only_where p ys)

  alike_cons : (x : X) (xs ys : List X) → Alike xs ys → Alike (x ∷ xs) (x ∷ ys)
  alike_cons x xs ys h = at (p x)
    where
      at : (b : Bool) → IsPermutation (cond b (x ∷ only_where p xs) (only_where p xs)) (cond b (x ∷ only_where p ys) (only_where p ys))
      at true = IsPermutation-cons x (only_where p xs) (only_where p ys) h
      at false = h

  alike_trans : (xs ys zs : List X) → Alike xs ys → Alike ys zs → Alike xs zs
  alike_trans xs ys zs h k = IsPermutation-trans (only_where p xs) (only_where p ys) (only_where p zs) h k

  -- two neighbours change places
  alike_two : (x y : X) (zs : List X) → Alike (x ∷ y ∷ zs) (y ∷ x ∷ zs)
  alike_two x y zs = at (p x) (p y)
    where
      rest : List X
      rest = only_where p zs

      at : (b c : Bool) → IsPermutation (cond b (x ∷ cond c (y ∷ only_where p zs) (only_where p zs)) (cond c (y ∷ only_where p zs) (only_where p zs))) (cond c (y ∷ cond b (x ∷ only_where p zs) (only_where p zs)) (cond b (x ∷ only_where p zs) (only_where p zs)))
      at true true = IsPermutation-middle (x ∷ []) y (only_where p zs)
      at true false = IsPermutation-refl (x ∷ only_where p zs)
      at false true = IsPermutation-refl (y ∷ only_where p zs)
      at false false = IsPermutation-refl (only_where p zs)

  -- the first changes places with a later one
  alike_first : (x d : X) (ys : List X) (m : ℕ) → m < length ys → Alike (x ∷ ys) (get_or ys m d ∷ set ys m x)
  alike_first x d [] m lt = absurd (omega (arith, lt))
  alike_first x d (y ∷ zs) zero lt = alike_two x y zs
  alike_first x d (y ∷ zs) (suc m) lt =
      alike_trans (x ∷ y ∷ zs) (y ∷ x ∷ zs) (get_or zs m d ∷ y ∷ set zs m x) (alike_two x y zs)
      (alike_trans (y ∷ x ∷ zs) (y ∷ get_or zs m d ∷ set zs m x) (get_or zs m d ∷ y ∷ set zs m x)
      (alike_cons y (x ∷ zs) (get_or zs m d ∷ set zs m x) (alike_first x d zs m (omega (arith, lt))))
      (alike_two y (get_or zs m d) (set zs m x)))

  alike_set : (d : X) (xs : List X) (i j : ℕ) → i < length xs → j < length xs → Alike xs (set (set xs i (get_or xs j d)) j (get_or xs i d))
  alike_set d [] i j li lj = absurd (omega (arith, li))
  alike_set d (x ∷ ys) zero zero li lj = IsPermutation-refl (only_where p (x ∷ ys))
  alike_set d (x ∷ ys) zero (suc m) li lj = alike_first x d ys m (omega (arith, lj))
  alike_set d (x ∷ ys) (suc n) zero li lj = alike_first x d ys n (omega (arith, li))
  alike_set d (x ∷ ys) (suc n) (suc m) li lj = alike_cons x ys (set (set ys n (get_or ys m d)) m (get_or ys n d)) (alike_set d ys n m (omega (arith, li)) (omega (arith, lj)))

  alike_swap : (xs : List X) (i j : ℕ) → i < length xs → j < length xs → Alike xs (swap xs i j)
  alike_swap [] i j li lj = absurd (omega (arith, li))
  alike_swap (d ∷ ys) i j li lj = subst (Alike (d ∷ ys)) (swap_is (d ∷ ys) i j d li lj) (alike_set d (d ∷ ys) i j li lj)

  pub IsPermutation-filter : (xs ys : List X) → IsPermutation xs ys → IsPermutation (only_where p xs) (only_where p ys)
  IsPermutation-filter xs ys h =
      IsPermutation-keeps xs (Alike xs) (IsPermutation-refl (only_where p xs))
      (λ l i j li lj k. alike_trans xs l (swap l i j) k (alike_swap l i j li lj)) ys h
