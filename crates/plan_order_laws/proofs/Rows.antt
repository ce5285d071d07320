-- Rows of rows, and rows in another order.
use Rattle.plan_order_laws.specs.Rows.{Below, Placed, nth}
use Rattle.std.proofs.Common.{◌≡◌, ℕ, zero, suc, ◌+◌, ◌<◌, List, [], ◌∷◌, length, map, refl, sym, ap, ap₂, ◌∙◌, subst, arith}
use Rattle.std.specs.List.{AllByRecursion, range_with_len, slice_index_or, swap, slice_set}
use Rattle.std.specs.List.Sorted.{IsPermutation}
use Rattle.std.proofs.lemmas.List.Sorted.{All-permutation, IsPermutation-keeps, IsPermutation-map, IsPermutation-refl, IsPermutation-swap, IsPermutation-trans, length_permutation}
use Rattle.std.proofs.lemmas.List.Elements.{All-from_recursion, recursion_from_All}
use Rattle.std.proofs.lemmas.List.FromFn.{length-range_with_len}
use Rattle.plan_frame.specs.Values.{Value}
use Rattle.plan_frame.specs.Frames.{Column, Frame, row, picked, picked_columns, rows_at}
use Rattle.plan_frame.proofs.FrameLemmas.{length-map}
use Rattle.plan_order_laws.specs.Reordering.{Reordering}
use Rattle.std.proofs.lemmas.List.{get_or-map, map-set}

pub row_map : (f : ℕ → Value) (ps : List ℕ) (i : ℕ) → i < length ps → row (map f ps) i ≡ f (nth ps i)
row_map f [] i lt = absurd (omega (arith, lt))
row_map f (p ∷ ps) zero lt = refl
row_map f (p ∷ ps) (suc i) lt = row_map f ps i (omega (arith, lt))

pub nth_map : (f : ℕ → ℕ) (ps : List ℕ) (i : ℕ) → i < length ps → nth (map f ps) i ≡ f (nth ps i)
nth_map f [] i lt = absurd (omega (arith, lt))
nth_map f (p ∷ ps) zero lt = refl
nth_map f (p ∷ ps) (suc i) lt = nth_map f ps i (omega (arith, lt))

pub picked_twice : (vs : List Value) (ps rows : List ℕ) → Below (length ps) rows → picked rows (picked ps vs) ≡ picked (map (nth ps) rows) vs
picked_twice vs ps [] h = refl
picked_twice vs ps (i ∷ rows) h = ap₂ (λ (x : Value) (xs : List Value). x ∷ xs) (row_map (row vs) ps i h.0) (picked_twice vs ps rows h.1)

columns_twice : (ps rows : List ℕ) (cs : List Column) → Below (length ps) rows → picked_columns rows (picked_columns ps cs) ≡ picked_columns (map (nth ps) rows) cs
columns_twice ps rows [] h = refl
columns_twice ps rows (c ∷ cs) h = ap₂ (λ (vs : List Value) (ds : List Column). record { name = c.name; values = vs } ∷ ds) (picked_twice c.values ps rows h) (columns_twice ps rows cs h)

-- rows of rows are rows
pub rows_twice : (ps rows : List ℕ) (f : Frame) → Below (length ps) rows → rows_at rows (rows_at ps f) ≡ rows_at (map (nth ps) rows) f
rows_twice ps rows f h = ap₂ (λ (n : ℕ) (cs : List Column). record { height = n; columns = cs }) (sym (length-map (nth ps) rows)) (columns_twice ps rows f.columns h)

pub each_permuted : {X : Type 0} (P : X → Type 0) (xs ys : List X) → IsPermutation xs ys → AllByRecursion P xs → AllByRecursion P ys
each_permuted P xs ys p h = recursion_from_All P ys (All-permutation P xs ys p (All-from_recursion P xs h))

pub range_below : (a n : ℕ) → Below (a + n) (range_with_len a n)
range_below a zero = tt
range_below a (suc n) = (omega arith, subst (λ (m : ℕ). Below m (range_with_len (a + 1) n)) (omega arith) (range_below (a + 1) n))

pub all_below : (h : ℕ) → Below h (range_with_len 0 h)
all_below h = subst (λ (m : ℕ). Below m (range_with_len 0 h)) (omega arith) (range_below 0 h)

pub permuted_below : (h : ℕ) (rows : List ℕ) → IsPermutation (range_with_len 0 h) rows → Below h rows
permuted_below h rows p = each_permuted (λ i. i < h) (range_with_len 0 h) rows p (all_below h)

pub permuted_length : (h : ℕ) (rows : List ℕ) → IsPermutation (range_with_len 0 h) rows → length rows ≡ h
permuted_length h rows p = length_permutation (range_with_len 0 h) rows p ∙ length-range_with_len 0 h

-- a list is its numbers in their places
shifted : (p : ℕ) (ps : List ℕ) (a n : ℕ) → map (nth (p ∷ ps)) (range_with_len (suc a) n) ≡ map (nth ps) (range_with_len a n)
shifted p ps a zero = refl
shifted p ps a (suc n) =
    let e : suc a + 1 ≡ suc (a + 1) = omega arith in
    ap (λ (m : ℕ). nth ps a ∷ map (nth (p ∷ ps)) (range_with_len m n)) e ∙ ap (λ (l : List ℕ). nth ps a ∷ l) (shifted p ps (a + 1) n)

pub in_places : (ps : List ℕ) → map (nth ps) (range_with_len 0 (length ps)) ≡ ps
in_places [] = refl
in_places (p ∷ ps) = ap (λ (m : ℕ). p ∷ map (nth (p ∷ ps)) (range_with_len m (length ps))) one ∙ ap (λ (l : List ℕ). p ∷ l) (shifted p ps 0 (length ps) ∙ in_places ps)
  where
    one : 0 + 1 ≡ suc 0
    one = omega arith

-- rows in another order, in another order
pub permuted_twice : (h : ℕ) (ps rows : List ℕ) → IsPermutation (range_with_len 0 h) ps → IsPermutation (range_with_len 0 (length ps)) rows → IsPermutation (range_with_len 0 h) (map (nth ps) rows)
permuted_twice h ps rows p q = IsPermutation-trans (range_with_len 0 h) ps (map (nth ps) rows) p (subst (λ (l : List ℕ). IsPermutation l (map (nth ps) rows)) (in_places ps) (IsPermutation-map (nth ps) (range_with_len 0 (length ps)) rows q))

-- What stands in another order has its places in one

slice_swap : (f : ℕ → ℕ) (ns : List ℕ) (i j : ℕ) → i < length ns → j < length ns → swap (map f ns) i j ≡ map f (swap ns i j)
slice_swap f [] i j lt k = absurd (omega (arith, lt))
slice_swap f (n ∷ ns) i j lt k =
    ap₂ (λ (x y : ℕ). slice_set (slice_set (map f (n ∷ ns)) i x) j y) (get_or-map f (n ∷ ns) j n (f n) k) (get_or-map f (n ∷ ns) i n (f n) lt)
    ∙ ap (λ (l : List ℕ). slice_set l j (f (slice_index_or (n ∷ ns) i n))) (sym (map-set f (n ∷ ns) i (slice_index_or (n ∷ ns) j n)))
    ∙ sym (map-set f (slice_set (n ∷ ns) i (slice_index_or (n ∷ ns) j n)) j (slice_index_or (n ∷ ns) i n))

pub placed : (xs ys : List ℕ) → IsPermutation xs ys → Placed xs ys
placed xs ys p = IsPermutation-keeps xs (Placed xs) start step ys p
  where
    start : Placed xs xs
    start = record { places = range_with_len 0 (length xs); permutes = IsPermutation-refl (range_with_len 0 (length xs)); is = sym (in_places xs) }

    step : (l : List ℕ) (i j : ℕ) → i < length l → j < length l → Placed xs l → Placed xs (swap l i j)
    step l i j lt k h =
        let long : length h.places ≡ length l = sym (length-map (nth xs) h.places) ∙ ap length (sym h.is) in
        let low : i < length h.places = subst (λ (n : ℕ). i < n) (sym long) lt in
        let high : j < length h.places = subst (λ (n : ℕ). j < n) (sym long) k in
        record {
          places = swap h.places i j;
          permutes = IsPermutation-trans (range_with_len 0 (length xs)) h.places (swap h.places i j) h.permutes (IsPermutation-swap h.places (swap h.places i j) i j low high refl);
          is = ap (λ (m : List ℕ). swap m i j) h.is ∙ slice_swap (nth xs) h.places i j low high;
        }

-- rows in another order give the frame's rows in another order
pub reordered_rows : (g : Frame) (xs ys : List ℕ) → IsPermutation xs ys → Reordering (rows_at ys g) (rows_at xs g)
reordered_rows g xs ys p =
    let h = placed xs ys p in
    record {
      rows = h.places;
      permutes = h.permutes;
      is = ap (λ (l : List ℕ). rows_at l g) h.is ∙ sym (rows_twice xs h.places g (permuted_below (length xs) h.places h.permutes));
    }
