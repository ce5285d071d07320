-- Lists with the same items, by exchanges of neighbours; what functions of lists make of them.
use Rattle.std.proofs.Common.{◌≡◌, ℕ, zero, suc, ◌+◌, ◌<◌, ◌||◌, Bool, true, false, cond, List, [], ◌∷◌, ◌++◌, length, map, refl, ap, ◌∙◌, arith}
use Rattle.std.specs.List.{AllByRecursion, filter, list_any, range_with_len, slice_index_or, slice_set, swap}
use Rattle.std.specs.List.Sorted.{IsPermutation}
use Rattle.std.proofs.lemmas.List.Sorted.{IsPermutation-keeps}
use Rattle.plan_frame.specs.Meaning.{places_from}
use Rattle.plan_order_laws.specs.Shuffles.{Shuffled, nothing, under, exchange, step}

module _ {X : Type 0} where
  pub itself : (xs : List X) → Shuffled xs xs
  itself [] = nothing
  itself (x ∷ xs) = under x (itself xs)

  front : (x : X) (xs : List X) (j : ℕ) (d : X) → j < length xs → Shuffled (x ∷ xs) (slice_index_or xs j d ∷ slice_set xs j x)
  front x [] j d lt = absurd (omega (arith, lt))
  front x (y ∷ ys) zero d lt = exchange x y ys
  front x (y ∷ ys) (suc k) d lt = step (exchange x y ys) (step (under y (front x ys k d (omega (arith, lt)))) (exchange y (slice_index_or ys k d) (slice_set ys k x)))

  exchanged : (d : X) (xs : List X) (i j : ℕ) → i < length xs → j < length xs → Shuffled xs (slice_set (slice_set xs i (slice_index_or xs j d)) j (slice_index_or xs i d))
  exchanged d [] i j lt k = absurd (omega (arith, lt))
  exchanged d (x ∷ xs) zero zero lt k = itself (x ∷ xs)
  exchanged d (x ∷ xs) zero (suc j) lt k = front x xs j d (omega (arith, k))
  exchanged d (x ∷ xs) (suc i) zero lt k = front x xs i d (omega (arith, lt))
  exchanged d (x ∷ xs) (suc i) (suc j) lt k = under x (exchanged d xs i j (omega (arith, lt)) (omega (arith, k)))

  -- what has the same items is so shuffled
  pub shuffled : (xs ys : List X) → IsPermutation xs ys → Shuffled xs ys
  shuffled xs ys p = IsPermutation-keeps xs (Shuffled xs) (itself xs) (λ l i j lt k h. step h (swapped l i j lt k)) ys p
    where
      swapped : (l : List X) (i j : ℕ) → i < length l → j < length l → Shuffled l (swap l i j)
      swapped [] i j lt k = absurd (omega (arith, lt))
      swapped (x ∷ l) i j lt k = exchanged x (x ∷ l) i j lt k

  pub as_long : (xs ys : List X) → Shuffled xs ys → length xs ≡ length ys
  as_long _ _ nothing = refl
  as_long _ _ (under x s) = ap suc (as_long _ _ s)
  as_long _ _ (exchange x y zs) = refl
  as_long _ _ (step s t) = as_long _ _ s ∙ as_long _ _ t

  pub shuffled_each : (P : X → Type 0) (xs ys : List X) → Shuffled xs ys → AllByRecursion P xs → AllByRecursion P ys
  shuffled_each P _ _ nothing h = h
  shuffled_each P _ _ (under x s) h = (h.0, shuffled_each P _ _ s h.1)
  shuffled_each P _ _ (exchange x y zs) h = (h.1.0, (h.0, h.1.1))
  shuffled_each P _ _ (step s t) h = shuffled_each P _ _ t (shuffled_each P _ _ s h)

  pub shuffled_filter : (test : X → Bool) (xs ys : List X) → Shuffled xs ys → Shuffled (filter test xs) (filter test ys)
  shuffled_filter test _ _ nothing = nothing
  shuffled_filter test _ _ (under x s) = at (test x) (shuffled_filter test _ _ s)
    where
      at : {xs ys : List X} (b : Bool) → Shuffled xs ys → Shuffled (cond b (x ∷ xs) xs) (cond b (x ∷ ys) ys)
      at true t = under x t
      at false t = t
  shuffled_filter test _ _ (exchange x y zs) = at (test x) (test y) (filter test zs)
    where
      at : (b c : Bool) (l : List X) → Shuffled (cond b (x ∷ cond c (y ∷ l) l) (cond c (y ∷ l) l)) (cond c (y ∷ cond b (x ∷ l) l) (cond b (x ∷ l) l))
      at true true l = exchange x y l
      at true false l = itself (x ∷ l)
      at false true l = itself (y ∷ l)
      at false false l = itself l
  shuffled_filter test _ _ (step s t) = step (shuffled_filter test _ _ s) (shuffled_filter test _ _ t)

  pub shuffled_any : (test : X → Bool) (xs ys : List X) → Shuffled xs ys → list_any test xs ≡ list_any test ys
  shuffled_any test _ _ nothing = refl
  shuffled_any test _ _ (under x s) = ap (λ (b : Bool). test x || b) (shuffled_any test _ _ s)
  shuffled_any test _ _ (exchange x y zs) = at (test x) (test y) (list_any test zs)
    where
      at : (a b c : Bool) → (a || (b || c)) ≡ (b || (a || c))
      at true true c = refl
      at true false c = refl
      at false true c = refl
      at false false c = refl
  shuffled_any test _ _ (step s t) = shuffled_any test _ _ s ∙ shuffled_any test _ _ t

  pub shuffled_last : (x : X) (xs ys : List X) → Shuffled xs ys → Shuffled (xs ++ x ∷ []) (ys ++ x ∷ [])
  shuffled_last x _ _ nothing = itself (x ∷ [])
  shuffled_last x _ _ (under y s) = under y (shuffled_last x _ _ s)
  shuffled_last x _ _ (exchange y z zs) = exchange y z (zs ++ x ∷ [])
  shuffled_last x _ _ (step s t) = step (shuffled_last x _ _ s) (shuffled_last x _ _ t)

  -- two items at the end, exchanged
  pub exchanged_last : (x y : X) (xs : List X) → Shuffled ((xs ++ x ∷ []) ++ y ∷ []) ((xs ++ y ∷ []) ++ x ∷ [])
  exchanged_last x y [] = exchange x y []
  exchanged_last x y (z ∷ xs) = under z (exchanged_last x y xs)

pub shuffled_map : {X Y : Type 0} (f : X → Y) (xs ys : List X) → Shuffled xs ys → Shuffled (map f xs) (map f ys)
shuffled_map f _ _ nothing = nothing
shuffled_map f _ _ (under x s) = under (f x) (shuffled_map f _ _ s)
shuffled_map f _ _ (exchange x y zs) = exchange (f x) (f y) (map f zs)
shuffled_map f _ _ (step s t) = step (shuffled_map f _ _ s) (shuffled_map f _ _ t)

pub places_filter : (test : ℕ → Bool) (a n : ℕ) → places_from test a n ≡ filter test (range_with_len a n)
places_filter test a zero = refl
places_filter test a (suc n) =
    let e : suc a ≡ a + 1 = omega arith in
    ap (λ (m : ℕ). cond (test a) (a ∷ places_from test m n) (places_from test m n)) e ∙ ap (λ (l : List ℕ). cond (test a) (a ∷ l) l) (places_filter test (a + 1) n)
