-- There are rows that are chosen: ranked rows in each total order, and kept rows for each way to choose.
use Rattle.std.proofs.Common.{◌≡◌, ℕ, Bool, true, false, List, ◌<◌, refl, sym, ◌∙◌, true≢false}
use Rattle.std.specs.Cmp.{IsEquivalence, IsTotalOrder}
use Rattle.std.specs.List.{AllByRecursion}
use Rattle.std.specs.List.Sorted.{IsPermutation}
use Rattle.std.specs.Ordering.{nat_cmp}
use Rattle.std.specs.declared.cmp.Ordering.{Ordering}
use Rattle.std.proofs.lemmas.Cmp.{nat_cmp_total, on_total}
use Rattle.std.proofs.lemmas.List.Elements.{All-from_recursion, recursion_from_All}
use Rattle.std.proofs.lemmas.List.Sorted.{All-permutation, list_any-IsPermutation}
use Rattle.std.proofs.lemmas.Map.Keys.{IsDistinct-IsPermutation}
use Rattle.plan_options.specs.declared.distinct.UniqueKeepStrategy.{UniqueKeepStrategy}
use Rattle.plan_frame.specs.Orders.{AreKept, may_be_kept}
use Rattle.plan_frame.proofs.KeptRows.{kept_exists}
use Rattle.plan_frame.proofs.OrderLemmas.{sorted_exists, ties_total, ascends_sorted, in_order, in_order_ascends, in_order_permutes}
use Rattle.plan_meaning.specs.Choices.{AreChosen, AreRanked, by_place, first_same, settled}
use Rattle.plan_meaning.proofs.FarApart.{far-apart}

-- all rows in a total order, those that stand equal by their places
pub ranked_exists : (cmp : ℕ → ℕ → Ordering) (h : ℕ) → IsTotalOrder cmp → (rows : List ℕ) × AreRanked cmp h rows
ranked_exists cmp h o =
    let rows = sorted_exists true cmp h o in
    (rows.0, record { permutes = rows.1.permutes; ranked = far-apart (by_place cmp) (ties_total cmp o) rows.0 (rows.1.ties refl) })

each_permuted : (P : ℕ → Type 0) (xs ys : List ℕ) → IsPermutation xs ys → AllByRecursion P xs → AllByRecursion P ys
each_permuted P xs ys p h = recursion_from_All P ys (All-permutation P xs ys p (All-from_recursion P xs h))

-- rows that are kept, in any order
kept_permuted : (keep : UniqueKeepStrategy) (same : ℕ → ℕ → Bool) (o : IsEquivalence same) (h : ℕ) (rows others : List ℕ) → IsPermutation rows others → AreKept false keep same h rows → AreKept false keep same h others
kept_permuted keep same o h rows others p k = record {
  below = each_permuted (λ i. i < h) rows others p k.below;
  apart = IsDistinct-IsPermutation same o.symm rows others p k.apart;
  may = each_permuted (λ i. may_be_kept keep same h i ≡ true) rows others p k.may;
  must = λ i lt e. sym (list_any-IsPermutation (same i) rows others p) ∙ k.must i lt e;
  in_order = λ e. absurd (true≢false (sym e));
}

-- the rows that are chosen of those that are the same: in their order, or by the first rows of their groups
pub chosen_exists : (stable : Bool) (keep : UniqueKeepStrategy) (same : ℕ → ℕ → Bool) (o : IsEquivalence same) (h : ℕ) → (rows : List ℕ) × AreChosen stable keep same h rows
chosen_exists true keep same o h =
    let k = kept_exists same o h true (settled keep) in
    (k.0, record { kept = k.1; by_firsts = λ e. absurd (true≢false e) })
chosen_exists false keep same o h =
    let k = kept_exists same o h false (settled keep) in
    let cmp = λ (i j : ℕ). nat_cmp (first_same same h i) (first_same same h j) in
    let total = on_total (first_same same h) nat_cmp_total in
    let rows = in_order cmp total k.0 in (
      rows,
      record {
        kept = kept_permuted (settled keep) same o h k.0 rows (in_order_permutes cmp total k.0) k.1;
        by_firsts = λ e. ascends_sorted cmp total rows (in_order_ascends cmp total k.0);
      },
    )
