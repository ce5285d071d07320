-- Distinct rows of rows in another order, where any of the rows that are the same may be kept, or only those that are alone.
use Rattle.std.proofs.Common.{◌≡◌, ℕ, zero, suc, ◌-◌, ◌<◌, ◌||◌, ◌==◌, ◌⊎◌, inl, inr, Bool, true, false, not, List, [], ◌∷◌, length, map, refl, sym, ap, ap₂, ◌∙◌, subst, arith}
use Rattle.std.specs.Cmp.{IsEquivalence}
use Rattle.std.specs.List.{AllByRecursion, IsDistinct, list_any, range_with_len, slice_index_or}
use Rattle.std.specs.List.Sorted.{IsPermutation}
use Rattle.std.specs.Ordering.{nat_cmp}
use Rattle.std.proofs.lemmas.Cmp.{nat_cmp_total}
use Rattle.std.proofs.lemmas.List.Sorted.{IsPermutation-sym, list_any-IsPermutation}
use Rattle.std.proofs.lemmas.Map.Keys.{IsDistinct-IsPermutation, apart_from_distinct}
use Rattle.plan_options.specs.declared.distinct.UniqueKeepStrategy.{UniqueKeepStrategy}
use Rattle.plan_options.specs.declared.distinct.UniqueKeepStrategy.TheVariants as keeps
use Rattle.plan_frame.specs.Orders.{AreKept, has_earlier, has_later, may_be_kept, must_be_kept}
use Rattle.plan_order_laws.specs.Orderless.{distinct_demands}
use Rattle.plan_order_laws.specs.Rows.{Below, nth}
use Rattle.plan_order_laws.specs.Reordering.{InOrder}
use Rattle.plan_order_laws.proofs.Rows.{each_permuted, permuted_below}
use Rattle.plan_order_laws.proofs.PickedRows.{each_place, nth_or, number_apart}
use Rattle.plan_frame.proofs.OrderLemmas.{ascends_sorted, in_order, in_order_ascends, in_order_permutes}
use Rattle.plan_frame.proofs.KeptRows.{none_pass, passing}

-- a row is the same as no other
abbrev pub IsAlone : (ℕ → ℕ → Bool) → ℕ → ℕ → Type 0
IsAlone same h i = (k : ℕ) → k < h → (k ≡ i → ⊥) → same i k ≡ false

neither : (a b : Bool) → not (a || b) ≡ true → (a ≡ false) × (b ≡ false)
neither true b e = cc
neither false true e = cc
neither false false e = (refl, refl)

both_not : (a b : Bool) → a ≡ false → b ≡ false → not (a || b) ≡ true
both_not true b e f = cc
both_not false true e f = cc
both_not false false e f = refl

pub three : (k i : ℕ) → (k < i) ⊎ ((k ≡ i) ⊎ (i < k))
three zero zero = inr (inl refl)
three zero (suc i) = inl (omega arith)
three (suc k) zero = inr (inr (omega arith))
three (suc k) (suc i) = elim (three k i) as (λ _. (suc k < suc i) ⊎ ((suc k ≡ suc i) ⊎ (suc i < suc k))) [
  | inl l ↦ inl (omega (arith, l))
  | inr r ↦ inr (elim r as (λ _. (suc k ≡ suc i) ⊎ (suc i < suc k)) [
    | inl e ↦ inl (ap suc e)
    | inr l ↦ inr (omega (arith, l))
  ])
]

pub alone_of : (same : ℕ → ℕ → Bool) (h i : ℕ) → i < h → not (has_earlier same i || has_later same h i) ≡ true → IsAlone same h i
alone_of same h i lt e k below other = at (neither (has_earlier same i) (has_later same h i) e) (three k i)
  where
    at : (has_earlier same i ≡ false) × (has_later same h i ≡ false) → (k < i) ⊎ ((k ≡ i) ⊎ (i < k)) → same i k ≡ false
    at q (inl l) = none_pass (same i) 0 i k q.0 (omega arith) (omega (arith, l))
    at q (inr (inl r)) = absurd (other r)
    at q (inr (inr l)) = none_pass (same i) (suc i) (h - suc i) k q.1 (omega (arith, l)) (omega (arith, l, below))

true_false : (b : Bool) → b ≡ true → b ≡ false → ⊥
true_false b e f = cc

pub is_alone : (same : ℕ → ℕ → Bool) (h i : ℕ) → i < h → IsAlone same h i → not (has_earlier same i || has_later same h i) ≡ true
is_alone same h i lt alone = both_not (has_earlier same i) (has_later same h i) (at (has_earlier same i) refl) (by (has_later same h i) refl)
  where
    at : (b : Bool) → has_earlier same i ≡ b → b ≡ false
    at false e = refl
    at true e = let r = passing (same i) 0 i e in let q = r.below in absurd (true_false (same i r.number) r.passes (alone r.number (omega (arith, q, lt)) (λ (x : r.number ≡ i). omega (arith, q, x))))

    by : (b : Bool) → has_later same h i ≡ b → b ≡ false
    by false e = refl
    by true e = let r = passing (same i) (suc i) (h - suc i) e in let q = r.below in let f = r.from in absurd (true_false (same i r.number) r.passes (alone r.number (omega (arith, q, lt)) (λ (x : r.number ≡ i). omega (arith, f, x))))

module _ (same by : ℕ → ℕ → Bool) (o : IsEquivalence same) (h : ℕ) (ps : List ℕ) (p : IsPermutation (range_with_len 0 h) ps) (alike : (i j : ℕ) → i < length ps → j < length ps → by i j ≡ same (nth ps i) (nth ps j)) where
  below_each : (i : ℕ) → i < length ps → nth ps i < h
  below_each i lt = go ps (permuted_below h ps p) i lt
    where
      go : (qs : List ℕ) → Below h qs → (i : ℕ) → i < length qs → nth qs i < h
      go [] b i lt = absurd (omega (arith, lt))
      go (q ∷ qs) b zero lt = b.0
      go (q ∷ qs) b (suc i) lt = go qs b.1 i (omega (arith, lt))

  ps_apart : IsDistinct (λ (x y : ℕ). x == y) ps
  ps_apart = IsDistinct-IsPermutation (λ (x y : ℕ). x == y) (λ x y. grind arith) (range_with_len 0 h) ps p (number_apart 0 h)

  -- no two places have one number
  pub places_differ : (i j : ℕ) → i < length ps → j < length ps → nth ps i ≡ nth ps j → i ≡ j
  places_differ i j lt k e = at (three i j)
    where
      equal : (x y : ℕ) → x ≡ y → (x == y) ≡ true
      equal x y e = grind (arith, e)

      no : (i j : ℕ) → i < j → j < length ps → nth ps i ≡ nth ps j → ⊥
      no i j l m e = true_false (slice_index_or ps i 0 == slice_index_or ps j 0) (equal _ _ (nth_or ps i 0 (omega (arith, l, m)) ∙ e ∙ sym (nth_or ps j 0 m))) (apart_from_distinct (λ (x y : ℕ). x == y) ps i j 0 ps_apart l m)

      at : (i < j) ⊎ ((i ≡ j) ⊎ (j < i)) → i ≡ j
      at (inl l) = absurd (no i j l k e)
      at (inr (inl q)) = q
      at (inr (inr l)) = absurd (no j i l lt (sym e))

  pub alone_back : (i : ℕ) → i < length ps → IsAlone by (length ps) i → IsAlone same h (nth ps i)
  alone_back i lt alone k below other =
      let q = each_place h ps p k below in
      ap (same (nth ps i)) (sym q.is) ∙ sym (alike i q.place lt q.below) ∙ alone q.place q.below (λ (e : q.place ≡ i). other (sym q.is ∙ ap (nth ps) e))

  pub alone_there : (i : ℕ) → i < length ps → IsAlone same h (nth ps i) → IsAlone by (length ps) i
  alone_there i lt alone k below other = alike i k lt below ∙ alone (nth ps k) (below_each k below) (λ e. other (places_differ k i below lt e))

  any_rows : (j : ℕ) (rows : List ℕ) → j < length ps → Below (length ps) rows → list_any (by j) rows ≡ list_any (same (nth ps j)) (map (nth ps) rows)
  any_rows j [] lt b = refl
  any_rows j (i ∷ rows) lt b = ap₂ (λ (x y : Bool). x || y) (alike j i lt b.0) (any_rows j rows lt b.1)

  apart_rows : (rows : List ℕ) → Below (length ps) rows → IsDistinct by rows → IsDistinct same (map (nth ps) rows)
  unfolding IsDistinct
  apart_rows [] b d = tt
  apart_rows (i ∷ rows) b d = (go rows b.1 d.0, apart_rows rows b.1 d.1)
    where
      go : (is : List ℕ) → Below (length ps) is → AllByRecursion (λ y. by i y ≡ false) is → AllByRecursion (λ y. same (nth ps i) y ≡ false) (map (nth ps) is)
      go [] b d = tt
      go (j ∷ is) b' d = (sym (alike i j b.0 b'.0) ∙ d.0, go is b'.1 d.1)

  below_rows : (rows : List ℕ) → Below (length ps) rows → Below h (map (nth ps) rows)
  below_rows [] b = tt
  below_rows (i ∷ rows) b = (below_each i b.0, below_rows rows b.1)

  may_rows : (keep : UniqueKeepStrategy) → distinct_demands keep false ≡ false → (i : ℕ) → i < length ps → may_be_kept keep by (length ps) i ≡ true → may_be_kept keep same h (nth ps i) ≡ true
  may_rows keeps.Any f i lt e = refl
  may_rows keeps.None f i lt e = is_alone same h (nth ps i) (below_each i lt) (alone_back i lt (alone_of by (length ps) i lt e))
  may_rows keeps.First f i lt e = cc
  may_rows keeps.Last f i lt e = cc

  must_rows : (keep : UniqueKeepStrategy) → distinct_demands keep false ≡ false → (i : ℕ) → i < length ps → must_be_kept keep same h (nth ps i) ≡ true → must_be_kept keep by (length ps) i ≡ true
  must_rows keeps.Any f i lt e = refl
  must_rows keeps.None f i lt e = is_alone by (length ps) i lt (alone_there i lt (alone_of same h (nth ps i) (below_each i lt) e))
  must_rows keeps.First f i lt e = cc
  must_rows keeps.Last f i lt e = cc

  each_may : (keep : UniqueKeepStrategy) → distinct_demands keep false ≡ false → (rows : List ℕ) → Below (length ps) rows → AllByRecursion (λ i. may_be_kept keep by (length ps) i ≡ true) rows → AllByRecursion (λ i. may_be_kept keep same h i ≡ true) (map (nth ps) rows)
  each_may keep f [] b m = tt
  each_may keep f (i ∷ rows) b m = (may_rows keep f i b.0 m.0, each_may keep f rows b.1 m.1)

  -- rows that are kept of rows in another order may be kept of the rows
  pub kept_rows : (keep : UniqueKeepStrategy) (rows : List ℕ) → distinct_demands keep false ≡ false → AreKept false keep by (length ps) rows → AreKept false keep same h (map (nth ps) rows)
  kept_rows keep rows f k = record {
    below = below_rows rows k.below;
    apart = apart_rows rows k.below k.apart;
    may = each_may keep f rows k.below k.may;
    must = λ i lt e. let q = each_place h ps p i lt in subst (λ (x : ℕ). list_any (same x) (map (nth ps) rows) ≡ true) q.is (sym (any_rows q.place rows q.below k.below) ∙ k.must q.place q.below (must_rows keep f q.place q.below (subst (λ (x : ℕ). must_be_kept keep same h x ≡ true) (sym q.is) e)));
    in_order = λ e. cc;
  }

-- rows that are kept in any order may be kept in their own
pub kept_in_order : (stable : Bool) (keep : UniqueKeepStrategy) (same : ℕ → ℕ → Bool) (o : IsEquivalence same) (h : ℕ) (rows : List ℕ) → AreKept false keep same h rows → InOrder stable keep same h rows
kept_in_order stable keep same o h rows k =
    let sorted = in_order nat_cmp nat_cmp_total rows in
    let p = in_order_permutes nat_cmp nat_cmp_total rows in
    record {
      sorted = sorted;
      kept = record {
        below = each_permuted (λ i. i < h) rows sorted p k.below;
        apart = IsDistinct-IsPermutation same o.symm rows sorted p k.apart;
        may = each_permuted (λ i. may_be_kept keep same h i ≡ true) rows sorted p k.may;
        must = λ i lt e. sym (list_any-IsPermutation (same i) rows sorted p) ∙ k.must i lt e;
        in_order = λ e. ascends_sorted nat_cmp nat_cmp_total sorted (in_order_ascends nat_cmp nat_cmp_total rows);
      };
      permutes = IsPermutation-sym rows sorted p;
    }
