-- Pairs that a join gives by more conditions are those that filters keep of pairs that it gives by fewer, in each order that is asked.
use Rattle.std.proofs.Common.{◌≡◌, ◌∙◌, ◌++◌, ◌+◌, ◌<◌, ◌≤◌, ℕ, zero, suc, Bool, true, false, not, ◌&&◌, cond, List, [], ◌∷◌, map, length, Option, Some, None, slice_index_or, refl, sym, ap, ap₂, subst, arith}
use Rattle.std.specs.Cmp.{IsTotalOrder, IsStrictWeakOrder, nat_cmp_total, then_total, on_total}
use Rattle.std.specs.List.{AllByRecursion, cons_option, filter as only_where, filter_map, flat_map, range_with_len}
use Rattle.std.specs.List.Sorted.{IsPermutation, IsSorted}
use Rattle.std.specs.Ordering.{is_lt, nat_cmp, ordering_reverse}
use Rattle.std.specs.declared.cmp.Ordering.{Ordering}
use Rattle.std.specs.declared.cmp.Ordering.TheVariants.{Less, Equal}
use Rattle.std.proofs.lemmas.List.{append-nil}
use Rattle.std.proofs.lemmas.List.Elements.{All-from_recursion, recursion_from_All, filter-append}
use Rattle.std.proofs.lemmas.List.Kept.{IsSortedBy-filter}
use Rattle.std.proofs.lemmas.List.Sorted.{All-permutation, IsPermutation-append_comm, IsPermutation-append_left, IsPermutation-cons, IsPermutation-filter_both, IsPermutation-middle, IsPermutation-refl, IsPermutation-trans, ranks_by}
use Rattle.plan_options.specs.declared.join.JoinType.{JoinType}
use Rattle.plan_options.specs.declared.join.MaintainOrderJoin.{MaintainOrderJoin}
use Rattle.plan_options.specs.declared.join.MaintainOrderJoin.TheVariants as orders
use Rattle.plan_join.specs.declared.pairs.RowPair.{RowPair}
use Rattle.plan_join.specs.Pairs.{Test, both, gives_left, gives_right, join_pairs, matched, passing, left_alone, right_alone, is_left_matched, is_right_matched}
use Rattle.plan_join.specs.Orders.{left_right, place_cmp, right_left, Meets, ArePicked}
use Rattle.plan_join.proofs.PlaceLemmas.{flat-below, passing-below, passing-none}
use Rattle.plan_collapse_laws.proofs.Shuffled.{IsPermutation-filter}
use Rattle.plan_collapse_laws.specs.FilteredPairs.{more_by, GivesPairs}

-- lists in order, each element beside the next

module _ {X : Type 0} (cmp : X → X → Ordering) where
  abbrev pub Ascends : List X → Type 0
  Ascends [] = Unit {0}
  Ascends (x ∷ []) = Unit {0}
  Ascends (x ∷ y ∷ ys) = (is_lt (cmp y x) ≡ false) × Ascends (y ∷ ys)

  ascends_sorted : (xs : List X) → Ascends xs → IsSorted cmp xs
  ascends_sorted [] h = λ k d low high. absurd (omega (arith, high))
  ascends_sorted (x ∷ []) h = λ k d low high. absurd (omega (arith, high))
  ascends_sorted (x ∷ y ∷ ys) h = go (ascends_sorted (y ∷ ys) h.1)
    where
      go : IsSorted cmp (y ∷ ys) → (k : ℕ) (d : X) → 0 ≤ k → k + 1 < length (x ∷ y ∷ ys) → is_lt (cmp (slice_index_or (x ∷ y ∷ ys) (k + 1) d) (slice_index_or (x ∷ y ∷ ys) k d)) ≡ false
      go rest zero d low high = h.0
      go rest (suc k) d low high =
          let e : suc k + 1 ≡ suc (k + 1) = omega arith in
          ap (λ (m : ℕ). is_lt (cmp (slice_index_or (x ∷ y ∷ ys) m d) (slice_index_or (x ∷ y ∷ ys) (suc k) d))) e ∙ rest k d (omega arith) (omega (arith, high))

  sorted_ascends : (xs : List X) → IsSorted cmp xs → Ascends xs
  sorted_ascends [] h = tt
  sorted_ascends (x ∷ []) h = tt
  sorted_ascends (x ∷ y ∷ ys) h = (h 0 x (omega arith) (omega arith), sorted_ascends (y ∷ ys) rest)
    where
      rest : IsSorted cmp (y ∷ ys)
      rest k d low high =
          let e : suc (k + 1) ≡ suc k + 1 = omega arith in
          ap (λ (m : ℕ). is_lt (cmp (slice_index_or (x ∷ y ∷ ys) m d) (slice_index_or (x ∷ y ∷ ys) (suc k) d))) e ∙ h (suc k) d (omega arith) (omega (arith, high))

  -- an element put before the first that comes after it
  abbrev put : X → List X → List X
  put y [] = y ∷ []
  put y (x ∷ xs) = cond (is_lt (cmp y x)) (y ∷ x ∷ xs) (x ∷ put y xs)

  abbrev puts : List X → List X → List X
  puts [] xs = xs
  puts (y ∷ ys) xs = put y (puts ys xs)

  put_permutes : (y : X) (xs : List X) → IsPermutation (y ∷ xs) (put y xs)
  put_permutes y [] = IsPermutation-refl (y ∷ [])
  put_permutes y (x ∷ xs) = at (put_permutes y xs) (is_lt (cmp y x))
    where
      at : IsPermutation (y ∷ xs) (put y xs) → (b : Bool) → IsPermutation (y ∷ x ∷ xs) (cond b (y ∷ x ∷ xs) (x ∷ put y xs))
      at rest true = IsPermutation-refl (y ∷ x ∷ xs)
      at rest false = IsPermutation-trans (y ∷ x ∷ xs) (x ∷ y ∷ xs) (x ∷ put y xs) (IsPermutation-middle (y ∷ []) x xs) (IsPermutation-cons x (y ∷ xs) (put y xs) rest)

  puts_permutes : (ys xs : List X) → IsPermutation (ys ++ xs) (puts ys xs)
  puts_permutes [] xs = IsPermutation-refl xs
  puts_permutes (y ∷ ys) xs = IsPermutation-trans (y ∷ (ys ++ xs)) (y ∷ puts ys xs) (put y (puts ys xs)) (IsPermutation-cons y (ys ++ xs) (puts ys xs) (puts_permutes ys xs)) (put_permutes y (puts ys xs))

  module _ (order : IsStrictWeakOrder (λ (x y : X). is_lt (cmp x y))) where
    put_after : (x y : X) (xs : List X) → is_lt (cmp y x) ≡ false → Ascends (x ∷ xs) → Ascends (x ∷ put y xs)
    put_after x y [] e h = (e, tt)
    put_after x y (z ∷ zs) e h = at (is_lt (cmp y z)) refl (λ q. put_after z y zs q h.1)
      where
        at : (b : Bool) → is_lt (cmp y z) ≡ b → (is_lt (cmp y z) ≡ false → Ascends (z ∷ put y zs)) → Ascends (x ∷ cond b (y ∷ z ∷ zs) (z ∷ put y zs))
        at true q rest = (e, (order.one_way y z q, h.1))
        at false q rest = (h.0, rest q)

    put_ascends : (y : X) (xs : List X) → Ascends xs → Ascends (put y xs)
    put_ascends y [] h = tt
    put_ascends y (x ∷ xs) h = at (is_lt (cmp y x)) refl
      where
        at : (b : Bool) → is_lt (cmp y x) ≡ b → Ascends (cond b (y ∷ x ∷ xs) (x ∷ put y xs))
        at true e = (order.one_way y x e, h)
        at false e = put_after x y xs e h

    puts_ascends : (ys xs : List X) → Ascends xs → Ascends (puts ys xs)
    puts_ascends [] xs h = h
    puts_ascends (y ∷ ys) xs h = put_ascends y (puts ys xs) (puts_ascends ys xs h)

  module _ (keep : X → Bool) where
    put_kept : (y : X) (xs : List X) → keep y ≡ false → only_where keep (put y xs) ≡ only_where keep xs
    put_kept y [] e = ap (λ (b : Bool). cond b (y ∷ []) []) e
    put_kept y (x ∷ xs) e = at (put_kept y xs e) (is_lt (cmp y x))
      where
        at : only_where keep (put y xs) ≡ only_where keep xs → (b : Bool) → only_where keep (cond b (y ∷ x ∷ xs) (x ∷ put y xs)) ≡ only_where keep (x ∷ xs)
        at rest true = ap (λ (b : Bool). cond b (y ∷ only_where keep (x ∷ xs)) (only_where keep (x ∷ xs))) e
        at rest false = ap (λ (zs : List X). cond (keep x) (x ∷ zs) zs) rest

    puts_kept : (ys xs : List X) → AllByRecursion (λ (y : X). keep y ≡ false) ys → only_where keep (puts ys xs) ≡ only_where keep xs
    puts_kept [] xs h = refl
    puts_kept (y ∷ ys) xs h = put_kept y (puts ys xs) h.0 ∙ puts_kept ys xs h.1

-- what passes a test, and what doesn't

not_not : (b : Bool) → not b ≡ true → b ≡ false
not_not true e = cc
not_not false e = refl

module _ {X : Type 0} where
  all-pass : (keep : X → Bool) (xs : List X) → AllByRecursion (λ (x : X). keep x ≡ true) (only_where keep xs)
  all-pass keep [] = tt
  all-pass keep (x ∷ xs) = at (keep x) refl (all-pass keep xs)
    where
      at : (b : Bool) → keep x ≡ b → AllByRecursion (λ (y : X). keep y ≡ true) (only_where keep xs) → AllByRecursion (λ (y : X). keep y ≡ true) (cond b (x ∷ only_where keep xs) (only_where keep xs))
      at true e rest = (e, rest)
      at false e rest = rest

  none-pass : (keep : X → Bool) (xs : List X) → AllByRecursion (λ (x : X). not (keep x) ≡ true) xs → AllByRecursion (λ (x : X). keep x ≡ false) xs
  none-pass keep [] h = tt
  none-pass keep (x ∷ xs) h = (not_not (keep x) h.0, none-pass keep xs h.1)

  passes-all : (keep : X → Bool) (xs : List X) → AllByRecursion (λ (x : X). keep x ≡ true) xs → only_where keep xs ≡ xs
  passes-all keep [] h = refl
  passes-all keep (x ∷ xs) h = ap (λ (b : Bool). cond b (x ∷ only_where keep xs) (only_where keep xs)) h.0 ∙ ap (λ (ys : List X). x ∷ ys) (passes-all keep xs h.1)

  -- a list in order that is what passes a test, in some order, is what passes of a whole list in order
  pub extended : (cmp : X → X → Ordering) → IsStrictWeakOrder (λ (x y : X). is_lt (cmp x y)) → (keep : X → Bool) (all kept : List X) → IsPermutation (only_where keep all) kept → IsSorted cmp kept → (qs : List X) × IsPermutation all qs × IsSorted cmp qs × (only_where keep qs ≡ kept)
  extended cmp order keep all kept p sorted =
      let others = only_where (λ (x : X). not (keep x)) all in
      let passes = only_where keep all in
      let these = recursion_from_All (λ (x : X). keep x ≡ true) kept (All-permutation (λ (x : X). keep x ≡ true) passes kept p (All-from_recursion (λ (x : X). keep x ≡ true) passes (all-pass keep all))) in
      let whole = IsPermutation-trans all (passes ++ others) (puts cmp others kept) (IsPermutation-filter_both keep (λ (x : X). not (keep x)) (λ x. refl) all)
      (IsPermutation-trans (passes ++ others) (kept ++ others) (puts cmp others kept) (IsPermutation-append_left others passes kept p)
      (IsPermutation-trans (kept ++ others) (others ++ kept) (puts cmp others kept) (IsPermutation-append_comm kept others) (puts_permutes cmp others kept))) in (
        puts cmp others kept,
        whole,
        ascends_sorted cmp (puts cmp others kept) (puts_ascends cmp order others kept (sorted_ascends cmp kept sorted)),
        puts_kept cmp keep others kept (none-pass keep others (all-pass (λ (x : X). not (keep x)) all)) ∙ passes-all keep kept these,
      )

-- pairs of two rows each, in an order that is asked

-- how two pairs stand by an order that is asked
abbrev order_cmp : MaintainOrderJoin → RowPair → RowPair → Ordering
order_cmp orders.None p q = Equal
order_cmp orders.Left p q = place_cmp p.left q.left
order_cmp orders.Right p q = place_cmp p.right q.right
order_cmp orders.LeftRight p q = left_right p q
order_cmp orders.RightLeft p q = right_left p q

turned : Ordering → Ordering
turned o = ordering_reverse o

place_total : IsTotalOrder place_cmp
place_total = record {
  antisymm = flips;
  trans = chains;
  congr = same;
}
  where
    flips : (x y : Option ℕ) → place_cmp x y ≡ ordering_reverse (place_cmp y x)
    flips (Some i) (Some j) = nat_cmp_total.antisymm i j
    flips (Some i) None = refl
    flips None (Some j) = refl
    flips None None = refl

    chains : (x y z : Option ℕ) → place_cmp x y ≡ Less → place_cmp y z ≡ Less → place_cmp x z ≡ Less
    chains (Some i) (Some j) (Some k) e f = nat_cmp_total.trans i j k e f
    chains (Some i) (Some j) None e f = refl
    chains (Some i) None (Some k) e f = cc
    chains (Some i) None None e f = refl
    chains None (Some j) z e f = cc
    chains None None z e f = cc

    same : (x y z : Option ℕ) → place_cmp x y ≡ Equal → place_cmp x z ≡ place_cmp y z
    same (Some i) (Some j) (Some k) e = nat_cmp_total.congr i j k e
    same (Some i) (Some j) None e = refl
    same (Some i) None z e = cc
    same None (Some j) z e = cc
    same None None z e = refl

order_ranks : (o : MaintainOrderJoin) → IsStrictWeakOrder (λ (p q : RowPair). is_lt (order_cmp o p q))
order_ranks orders.None = record { one_way = λ x y e. cc; chain = λ x y z e f. refl }
order_ranks orders.Left = ranks_by place_total (λ (p : RowPair). p.left)
order_ranks orders.Right = ranks_by place_total (λ (p : RowPair). p.right)
order_ranks orders.LeftRight = ranks_by (then_total (on_total (λ (p : RowPair). p.left) place_total) (on_total (λ (p : RowPair). p.right) place_total)) (λ (p : RowPair). p)
order_ranks orders.RightLeft = ranks_by (then_total (on_total (λ (p : RowPair). p.right) place_total) (on_total (λ (p : RowPair). p.left) place_total)) (λ (p : RowPair). p)

-- each pair has a row of a side
module _ (side : RowPair → Option ℕ) where
  abbrev HaveSide : List RowPair → Type 0
  HaveSide ps = AllByRecursion (λ (p : RowPair). (i : ℕ) × (side p ≡ Some i)) ps

  abbrev side_cmp : RowPair → RowPair → Ordering
  side_cmp p q = place_cmp (side p) (side q)

  below : (p q : RowPair) (i j : ℕ) → side p ≡ Some i → side q ≡ Some j → is_lt (side_cmp q p) ≡ is_lt (nat_cmp j i)
  below p q i j e f = ap₂ (λ (x y : Option ℕ). is_lt (place_cmp x y)) f e

  abbrev places : (ps : List RowPair) → HaveSide ps → List ℕ
  places [] h = []
  places (p ∷ ps) h = h.0.0 ∷ places ps h.1

  places-are : (ps : List RowPair) (h : HaveSide ps) → filter_map side ps ≡ places ps h
  places-are [] h = refl
  places-are (p ∷ ps) h = ap (λ (o : Option ℕ). cons_option o (filter_map side ps)) h.0.1 ∙ ap (λ (is : List ℕ). h.0.0 ∷ is) (places-are ps h.1)

  by_place : (ps : List RowPair) (h : HaveSide ps) → Ascends nat_cmp (places ps h) → Ascends side_cmp ps
  by_place [] h k = tt
  by_place (p ∷ []) h k = tt
  by_place (p ∷ q ∷ ps) h k = (below p q h.0.0 h.1.0.0 h.0.1 h.1.0.1 ∙ k.0, by_place (q ∷ ps) h.1 k.1)

  to_places : (ps : List RowPair) (h : HaveSide ps) → Ascends side_cmp ps → Ascends nat_cmp (places ps h)
  to_places [] h k = tt
  to_places (p ∷ []) h k = tt
  to_places (p ∷ q ∷ ps) h k = (sym (below p q h.0.0 h.1.0.0 h.0.1 h.1.0.1) ∙ k.0, to_places (q ∷ ps) h.1 k.1)

  side_ordered : (ps : List RowPair) → HaveSide ps → IsSorted nat_cmp (filter_map side ps) → IsSorted side_cmp ps
  side_ordered ps h k = ascends_sorted side_cmp ps (by_place ps h (subst (Ascends nat_cmp) (places-are ps h) (sorted_ascends nat_cmp (filter_map side ps) k)))

  side_met : (ps : List RowPair) → HaveSide ps → IsSorted side_cmp ps → IsSorted nat_cmp (filter_map side ps)
  side_met ps h k = ascends_sorted nat_cmp (filter_map side ps) (subst (Ascends nat_cmp) (sym (places-are ps h)) (to_places ps h (sorted_ascends side_cmp ps k)))

-- each pair is of two rows
abbrev pub AreTwo : List RowPair → Type 0
AreTwo ps = AllByRecursion (λ (p : RowPair). (i : ℕ) × (j : ℕ) × (p ≡ both i j)) ps

lefts_of : (ps : List RowPair) → AreTwo ps → HaveSide (λ (p : RowPair). p.left) ps
lefts_of [] h = tt
lefts_of (p ∷ ps) h = ((h.0.0, ap (λ (q : RowPair). q.left) h.0.2), lefts_of ps h.1)

rights_of : (ps : List RowPair) → AreTwo ps → HaveSide (λ (p : RowPair). p.right) ps
rights_of [] h = tt
rights_of (p ∷ ps) h = ((h.0.1, ap (λ (q : RowPair). q.right) h.0.2), rights_of ps h.1)

meets_ordered : (o : MaintainOrderJoin) (ps : List RowPair) → AreTwo ps → Meets o ps → IsSorted (order_cmp o) ps
meets_ordered orders.None ps two m = λ k d low high. refl
meets_ordered orders.Left ps two m = side_ordered (λ (p : RowPair). p.left) ps (lefts_of ps two) m
meets_ordered orders.Right ps two m = side_ordered (λ (p : RowPair). p.right) ps (rights_of ps two) m
meets_ordered orders.LeftRight ps two m = m
meets_ordered orders.RightLeft ps two m = m

ordered_meets : (o : MaintainOrderJoin) (ps : List RowPair) → AreTwo ps → IsSorted (order_cmp o) ps → Meets o ps
ordered_meets orders.None ps two m = tt
ordered_meets orders.Left ps two m = side_met (λ (p : RowPair). p.left) ps (lefts_of ps two) m
ordered_meets orders.Right ps two m = side_met (λ (p : RowPair). p.right) ps (rights_of ps two) m
ordered_meets orders.LeftRight ps two m = m
ordered_meets orders.RightLeft ps two m = m

-- the pairs of rows that match

two_append : (ps qs : List RowPair) → AreTwo ps → AreTwo qs → AreTwo (ps ++ qs)
two_append [] qs h k = k
two_append (p ∷ ps) qs h k = (h.0, two_append ps qs h.1 k)

two_row : (i : ℕ) (js : List ℕ) → AreTwo (map (both i) js)
two_row i [] = tt
two_row i (j ∷ js) = ((i, j, refl), two_row i js)

two_rows : (test : Test) (k : ℕ) (is : List ℕ) → AreTwo (flat_map (λ i. map (both i) (passing (test i) k)) is)
two_rows test k [] = tt
two_rows test k (i ∷ is) = two_append (map (both i) (passing (test i) k)) (flat_map (λ a. map (both a) (passing (test a) k)) is) (two_row i (passing (test i) k)) (two_rows test k is)

two_of : (all ps : List RowPair) → AreTwo all → IsPermutation all ps → AreTwo ps
two_of all ps h p =
    let Two = λ (q : RowPair). (i : ℕ) × (j : ℕ) × (q ≡ both i j) in
    recursion_from_All Two ps (All-permutation Two all ps p (All-from_recursion Two all h))

two_where : (keep : RowPair → Bool) (ps : List RowPair) → AreTwo ps → AreTwo (only_where keep ps)
two_where keep [] h = tt
two_where keep (p ∷ ps) h = at (keep p) (two_where keep ps h.1)
  where
    at : (b : Bool) → AreTwo (only_where keep ps) → AreTwo (cond b (p ∷ only_where keep ps) (only_where keep ps))
    at true rest = (h.0, rest)
    at false rest = rest

where_row : (test : Test) (keep : RowPair → Bool) (i : ℕ) (js : List ℕ) → only_where keep (map (both i) (only_where (test i) js)) ≡ map (both i) (only_where (more_by test keep i) js)
where_row test keep i [] = refl
where_row test keep i (j ∷ js) = at (test i j) (keep (both i j)) (where_row test keep i js)
  where
    at : (b c : Bool) → only_where keep (map (both i) (only_where (test i) js)) ≡ map (both i) (only_where (more_by test keep i) js) → only_where keep (map (both i) (cond b (j ∷ only_where (test i) js) (only_where (test i) js))) ≡ map (both i) (cond (b && keep (both i j)) (j ∷ only_where (more_by test keep i) js) (only_where (more_by test keep i) js))
    at true c rest = kept (keep (both i j))
      where
        kept : (d : Bool) → cond d (both i j ∷ only_where keep (map (both i) (only_where (test i) js))) (only_where keep (map (both i) (only_where (test i) js))) ≡ map (both i) (cond d (j ∷ only_where (more_by test keep i) js) (only_where (more_by test keep i) js))
        kept true = ap (λ (ps : List RowPair). both i j ∷ ps) rest
        kept false = rest
    at false c rest = rest

pub where-matched : (test : Test) (keep : RowPair → Bool) (h k : ℕ) → only_where keep (matched test h k) ≡ matched (more_by test keep) h k
where-matched test keep h k = go (range_with_len 0 h)
  where
    go : (is : List ℕ) → only_where keep (flat_map (λ i. map (both i) (passing (test i) k)) is) ≡ flat_map (λ i. map (both i) (passing (more_by test keep i) k)) is
    go [] = refl
    go (i ∷ is) = filter-append keep (map (both i) (passing (test i) k)) (flat_map (λ a. map (both a) (passing (test a) k)) is) ∙ ap₂ (λ (xs ys : List RowPair). xs ++ ys) (where_row test keep i (range_with_len 0 k)) (go is)

-- and pairs that match by tests that are the same below the heights are the same
pub matched-below : (test other : Test) (h k : ℕ) → ((i j : ℕ) → i < h → j < k → test i j ≡ other i j) → matched test h k ≡ matched other h k
matched-below test other h k same =
    flat-below (λ i. map (both i) (passing (test i) k)) (λ i. map (both i) (passing (other i) k)) h
    (λ i lt. ap (map (both i)) (passing-below (test i) (other i) k (λ j below. same i j lt below)))

pub only-matched : (how : JoinType) (test : Test) (h k : ℕ) → GivesPairs how → join_pairs how test h k ≡ matched test h k
only-matched how test h k only =
    ap₂ (λ (xs ys : List RowPair). xs ++ ys)
    (ap₂ (λ (xs ys : List RowPair). xs ++ ys) (ap (λ (b : Bool). cond b (matched test h k) []) only.pairs) (ap (map left_alone) (passing-none (λ i. gives_left how (is_left_matched test k i)) (range_with_len 0 h) (λ i. only.lefts (is_left_matched test k i)))))
    (ap (map right_alone) (passing-none (λ j. gives_right how (is_right_matched test h j)) (range_with_len 0 k) (λ j. only.rights (is_right_matched test h j))))
    ∙ append-nil (matched test h k ++ [])
    ∙ append-nil (matched test h k)

-- where a join with filters over it keeps what another does with its own, each list of pairs that the other may take, filtered,
-- is one that the first may take, filtered
pub filtered-pairs : (how other : JoinType) (order : MaintainOrderJoin) (own keys : Test) (run rest : RowPair → Bool) (h k : ℕ) → GivesPairs how → GivesPairs other → ((i j : ℕ) → i < h → j < k → more_by own run i j ≡ more_by keys rest i j) → (ps : List RowPair) → ArePicked other order keys h k ps → (qs : List RowPair) × ArePicked how order own h k qs × (only_where run qs ≡ only_where rest ps)
filtered-pairs how other order own keys run rest h k only_how only_other same ps picked =
    let all = matched keys h k in
    let p : IsPermutation all ps = subst (λ (l : List RowPair). IsPermutation l ps) (only-matched other keys h k only_other) picked.pairs in
    let two = two_of all ps (two_rows keys k (range_with_len 0 h)) p in
    let kept = only_where rest ps in
    let sorted = IsSortedBy-filter (λ (x y : RowPair). is_lt (order_cmp order x y)) (order_ranks order) rest ps (meets_ordered order ps two picked.in_order) in
    let one : only_where rest all ≡ only_where run (matched own h k) = where-matched keys rest h k ∙ sym (where-matched own run h k ∙ matched-below (more_by own run) (more_by keys rest) h k same) in
    let ext = extended (order_cmp order) (order_ranks order) run (matched own h k) kept (subst (λ (l : List RowPair). IsPermutation l kept) one (IsPermutation-filter rest all ps p)) sorted in
    let qs = ext.0 in (
      qs,
      record {
        pairs = subst (λ (l : List RowPair). IsPermutation l qs) (sym (only-matched how own h k only_how)) ext.1;
        in_order = ordered_meets order qs (two_of (matched own h k) qs (two_rows own k (range_with_len 0 h)) ext.1) ext.2;
      },
      ext.3,
    )
