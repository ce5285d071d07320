-- Which rows are taken of rows in another order: those in the order of keys, and those that are kept of rows that are the same.
use Rattle.std.proofs.Common.{◌≡◌, ℕ, zero, suc, ◌+◌, ◌<◌, ◌&&◌, ◌==◌, Bool, false, List, [], ◌∷◌, length, map, refl, sym, ap, ap₂, ◌∙◌, subst, arith}
use Rattle.std.specs.List.{AllByRecursion, IsDistinct, range_with_len, slice_index_or}
use Rattle.std.specs.List.Sorted.{IsPermutation, IsSorted}
use Rattle.std.specs.Ordering.{is_lt, ordering_then}
use Rattle.std.specs.declared.cmp.Ordering.{Ordering}
use Rattle.std.proofs.lemmas.List.{get_or-map}
use Rattle.std.proofs.lemmas.List.Elements.{All-from_recursion}
use Rattle.std.proofs.lemmas.List.FromFn.{get_or-range_with_len, length-range_with_len}
use Rattle.std.proofs.lemmas.List.Sorted.{Contains-permutation}
use Rattle.plan_frame.specs.Values.{same_value}
use Rattle.plan_frame.specs.Meaning.{Cell, are_alike}
use Rattle.plan_frame.specs.Orders.{AreSorted, first_mark, key_cmp, rest_marks, rows_cmp}
use Rattle.plan_order_laws.specs.Rows.{Below, PlaceOf, nth, rows_cell}
use Rattle.plan_order_laws.proofs.Rows.{permuted_below, permuted_twice}
use Rattle.plan_order_laws.proofs.Cells.{value_rows}

-- Cells in some rows

pub cmp_rows : (ps : List ℕ) (cs : List Cell) (ds ns : List Bool) (i j : ℕ) → i < length ps → j < length ps → rows_cmp (map (rows_cell ps) cs) ds ns i j ≡ rows_cmp cs ds ns (nth ps i) (nth ps j)
cmp_rows ps [] ds ns i j lt k = refl
cmp_rows ps (c ∷ cs) ds ns i j lt k =
    ap₂ ordering_then (ap₂ (key_cmp (first_mark ds) (first_mark ns)) (value_rows c ps i lt) (value_rows c ps j k)) (cmp_rows ps cs (rest_marks ds) (rest_marks ns) i j lt k)

pub alike_rows : (ps : List ℕ) (cs : List Cell) (i j : ℕ) → i < length ps → j < length ps → are_alike (map (rows_cell ps) cs) i j ≡ are_alike cs (nth ps i) (nth ps j)
alike_rows ps [] i j lt k = refl
alike_rows ps (c ∷ cs) i j lt k = ap₂ (λ (a b : Bool). a && b) (ap₂ same_value (value_rows c ps i lt) (value_rows c ps j k)) (alike_rows ps cs i j lt k)

-- Rows in the order of keys

pub sorted_rows : (ps rows : List ℕ) (by cmp : ℕ → ℕ → Ordering) → Below (length ps) rows → ((i j : ℕ) → i < length ps → j < length ps → by i j ≡ cmp (nth ps i) (nth ps j)) → IsSorted by rows → IsSorted cmp (map (nth ps) rows)
sorted_rows ps rows by cmp b same h = λ k d low high. at k d (subst (λ (n : ℕ). k + 1 < n) (long rows) high)
  where
    long : (is : List ℕ) → length (map (nth ps) is) ≡ length is
    long [] = refl
    long (i ∷ is) = ap suc (long is)

    at : (k d : ℕ) → k + 1 < length rows → is_lt (cmp (slice_index_or (map (nth ps) rows) (k + 1) d) (slice_index_or (map (nth ps) rows) k d)) ≡ false
    at k d high =
        let first : k < length rows = omega (arith, high) in
        ap₂ (λ (x y : ℕ). is_lt (cmp x y)) (get_or-map (nth ps) rows (k + 1) 0 d high) (get_or-map (nth ps) rows k 0 d first)
        ∙ ap is_lt (sym (same (slice_index_or rows (k + 1) 0) (slice_index_or rows k 0) (All-from_recursion (λ i. i < length ps) rows b (k + 1) 0 high) (All-from_recursion (λ i. i < length ps) rows b k 0 first)))
        ∙ h k 0 (omega arith) high

pub sort_rows : (h : ℕ) (ps rows : List ℕ) (by cmp : ℕ → ℕ → Ordering) → IsPermutation (range_with_len 0 h) ps → ((i j : ℕ) → i < length ps → j < length ps → by i j ≡ cmp (nth ps i) (nth ps j)) → AreSorted false by (length ps) rows → AreSorted false cmp h (map (nth ps) rows)
sort_rows h ps rows by cmp p same k = record {
  permutes = permuted_twice h ps rows p k.permutes;
  sorted = sorted_rows ps rows by cmp (permuted_below (length ps) rows k.permutes) same k.sorted;
  ties = λ e. cc;
}

-- Places in rows in another order

pub nth_or : (ps : List ℕ) (i d : ℕ) → i < length ps → slice_index_or ps i d ≡ nth ps i
nth_or [] i d lt = absurd (omega (arith, lt))
nth_or (p ∷ ps) zero d lt = refl
nth_or (p ∷ ps) (suc i) d lt = nth_or ps i d (omega (arith, lt))

pub each_place : (h : ℕ) (ps : List ℕ) → IsPermutation (range_with_len 0 h) ps → (k : ℕ) → k < h → PlaceOf ps k
each_place h ps p k lt =
    let long : k < length (range_with_len 0 h) = subst (λ (n : ℕ). k < n) (sym (length-range_with_len 0 h)) lt in
    let there : slice_index_or (range_with_len 0 h) k k ≡ k = get_or-range_with_len 0 h k k lt ∙ omega arith in
    let c = Contains-permutation (range_with_len 0 h) ps k p (k, long, there) in
    record { place = c.0; below = c.1; is = sym (nth_or ps c.0 k c.1) ∙ c.2 }

pub number_apart : (a n : ℕ) → IsDistinct (λ (x y : ℕ). x == y) (range_with_len a n)
unfolding IsDistinct
number_apart a zero = tt
number_apart a (suc n) = (apart_from (a + 1) n (omega arith), number_apart (a + 1) n)
  where
    apart_from : (b m : ℕ) → a < b → AllByRecursion (λ (y : ℕ). (a == y) ≡ false) (range_with_len b m)
    apart_from b zero lt = tt
    apart_from b (suc m) lt = (eqb-false a b lt, apart_from (b + 1) m (omega (arith, lt)))
      where
        eqb-false : (x y : ℕ) → x < y → (x == y) ≡ false
        eqb-false x y l = grind (arith, l)
