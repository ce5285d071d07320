-- Pairs in order: what is given row by row stands in the order of both sides, and that is each order that is asked.
use Rattle.std.proofs.Common.{◌≡◌, ◌∙◌, ◌++◌, ◌+◌, ◌<◌, ◌≤◌, ℕ, zero, suc, Bool, true, false, not, cond, List, [], ◌∷◌, map, length, Option, Some, None, slice_index_or, true≢false, refl, sym, ap, ap₂, subst, arith}
use Rattle.std.specs.Cmp.{nat_cmp_is}
use Rattle.std.specs.List.{AllByRecursion, cons_option, filter as only_where, filter_map, flat_map, range_with_len}
use Rattle.std.specs.List.Sorted.{IsSorted}
use Rattle.std.specs.Ordering.{is_lt, nat_cmp, ordering_then}
use Rattle.std.specs.declared.cmp.Ordering.{Ordering}
use Rattle.std.specs.declared.cmp.Ordering.TheVariants.{Less, Equal, Greater}
use Rattle.plan_options.specs.declared.join.JoinType.{JoinType}
use Rattle.plan_options.specs.declared.join.JoinType.TheVariants as kinds
use Rattle.plan_options.specs.declared.join.MaintainOrderJoin.{MaintainOrderJoin}
use Rattle.plan_options.specs.declared.join.MaintainOrderJoin.TheVariants as orders
use Rattle.plan_join.specs.declared.matches.Matches.{Matches}
use Rattle.plan_join.specs.declared.pairs.RowPair.{RowPair}
use Rattle.plan_join.specs.Pairs.{Test, gives_pairs, is_right_matched, passing}
use Rattle.plan_join.specs.Orders.{left_right, own_order, place_cmp, right_left, Meets, ArePicked}
use Rattle.plan_join.specs.Rows.{flipped, goes_right, AreJoined}
use Rattle.plan_join.specs.Given.{all_given, as_pair, gives_alone, is_any, pairs_with, row_given}
use Rattle.plan_join.proofs.PlaceLemmas.{passing-none}
use Rattle.plan_join.proofs.GivenLemmas.{given-matched, given_by, left-given, right-given}

-- lists in order, each element beside the next, and each beside all that follow

module _ {X : Type 0} (cmp : X → X → Ordering) where
  abbrev Ascends : List X → Type 0
  Ascends [] = Unit {0}
  Ascends (x ∷ []) = Unit {0}
  Ascends (x ∷ y ∷ ys) = (is_lt (cmp y x) ≡ false) × Ascends (y ∷ ys)

  ascends_sorted : (xs : List X) → Ascends xs → IsSorted cmp xs
  ascends_sorted [] h = λ k d low high. absurd (omega (arith, high))
  ascends_sorted (x ∷ []) h = λ k d low high. absurd (omega (arith, high))
  ascends_sorted (x ∷ y ∷ ys) h = go (ascends_sorted (y ∷ ys) h.1)
    where
      go : IsSorted cmp (y ∷ ys) → (k : ℕ) (d : X) → 0 ≤ k → k + 1 < length (x ∷ y ∷ ys) → is_lt (cmp (slice_index_or (x ∷ y ∷ ys) (k + 1) d) (slice_index_or (x ∷ y ∷ ys) k d)) ≡ false
      go rest zero d low high = h.0
      go rest (suc k) d low high =
          let e : suc k + 1 ≡ suc (k + 1) = omega arith in
          ap (λ (m : ℕ). is_lt (cmp (slice_index_or (x ∷ y ∷ ys) m d) (slice_index_or (x ∷ y ∷ ys) (suc k) d))) e ∙ rest k d (omega arith) (omega (arith, high))

  sorted_ascends : (xs : List X) → IsSorted cmp xs → Ascends xs
  sorted_ascends [] h = tt
  sorted_ascends (x ∷ []) h = tt
  sorted_ascends (x ∷ y ∷ ys) h = (h 0 x (omega arith) (omega arith), sorted_ascends (y ∷ ys) rest)
    where
      rest : IsSorted cmp (y ∷ ys)
      rest k d low high =
          let e : suc (k + 1) ≡ suc k + 1 = omega arith in
          ap (λ (m : ℕ). is_lt (cmp (slice_index_or (x ∷ y ∷ ys) m d) (slice_index_or (x ∷ y ∷ ys) (suc k) d))) e ∙ h (suc k) d (omega arith) (omega (arith, high))

  abbrev Before : X → List X → Type 0
  Before x ys = AllByRecursion (λ y. is_lt (cmp y x) ≡ false) ys

  abbrev Up : List X → Type 0
  Up [] = Unit {0}
  Up (x ∷ xs) = Before x xs × Up xs

  up_ascends : (xs : List X) → Up xs → Ascends xs
  up_ascends [] h = tt
  up_ascends (x ∷ []) h = tt
  up_ascends (x ∷ y ∷ ys) h = (h.0.0, up_ascends (y ∷ ys) h.1)

  up_sorted : (xs : List X) → Up xs → IsSorted cmp xs
  up_sorted xs h = ascends_sorted xs (up_ascends xs h)

  before_append : (x : X) (ys zs : List X) → Before x ys → Before x zs → Before x (ys ++ zs)
  before_append x [] zs h k = k
  before_append x (y ∷ ys) zs h k = (h.0, before_append x ys zs h.1 k)

  up_append : (xs ys : List X) → Up xs → Up ys → AllByRecursion (λ x. Before x ys) xs → Up (xs ++ ys)
  up_append [] ys h k all = k
  up_append (x ∷ xs) ys h k all = (before_append x xs ys h.0 all.0, up_append xs ys h.1 k all.1)

all_map : {X Y : Type 0} (P : Y → Type 0) (f : X → Y) (Q : X → Type 0) (xs : List X) → AllByRecursion Q xs → ((x : X) → Q x → P (f x)) → AllByRecursion P (map f xs)
all_map P f Q [] h by = tt
all_map P f Q (x ∷ xs) h by = (by x h.0, all_map P f Q xs h.1 by)

all_append : {X : Type 0} (P : X → Type 0) (xs ys : List X) → AllByRecursion P xs → AllByRecursion P ys → AllByRecursion P (xs ++ ys)
all_append P [] ys h k = k
all_append P (x ∷ xs) ys h k = (h.0, all_append P xs ys h.1 k)

all_weaken : {X : Type 0} (P Q : X → Type 0) (xs : List X) → AllByRecursion P xs → ((x : X) → P x → Q x) → AllByRecursion Q xs
all_weaken P Q [] h by = tt
all_weaken P Q (x ∷ xs) h by = (by x h.0, all_weaken P Q xs h.1 by)

all_any : {X : Type 0} (P : X → Type 0) (xs : List X) → ((x : X) → P x) → AllByRecursion P xs
all_any P [] by = tt
all_any P (x ∷ xs) by = (by x, all_any P xs by)

-- places that pass rise

abbrev Rises : List ℕ → Type 0
Rises [] = Unit {0}
Rises (x ∷ xs) = AllByRecursion (λ y. x < y) xs × Rises xs

passing_above : (p : ℕ → Bool) (b a n : ℕ) → b < a → AllByRecursion (λ y. b < y) (only_where p (range_with_len a n))
passing_above p b a zero lt = tt
passing_above p b a (suc n) lt = at (p a) (passing_above p b (a + 1) n (omega (arith, lt)))
  where
    at : (t : Bool) → AllByRecursion (λ y. b < y) (only_where p (range_with_len (a + 1) n)) → AllByRecursion (λ y. b < y) (cond t (a ∷ only_where p (range_with_len (a + 1) n)) (only_where p (range_with_len (a + 1) n)))
    at true r = (lt, r)
    at false r = r

passing_rises : (p : ℕ → Bool) (a n : ℕ) → Rises (only_where p (range_with_len a n))
passing_rises p a zero = tt
passing_rises p a (suc n) = at (p a) (passing_rises p (a + 1) n)
  where
    at : (t : Bool) → Rises (only_where p (range_with_len (a + 1) n)) → Rises (cond t (a ∷ only_where p (range_with_len (a + 1) n)) (only_where p (range_with_len (a + 1) n)))
    at true r = (passing_above p a (a + 1) n (omega arith), r)
    at false r = r

-- a number after another is not less

not_less : (i j : ℕ) → i < j → is_lt (nat_cmp j i) ≡ false
not_less i j lt = sym (ap is_lt (nat_cmp_is j i Greater lt))

then_later : (i j : ℕ) (o : Ordering) → i < j → is_lt (ordering_then (nat_cmp j i) o) ≡ false
then_later i j o lt = sym (ap (λ (c : Ordering). is_lt (ordering_then c o)) (nat_cmp_is j i Greater lt))

then_same : (i : ℕ) (o : Ordering) → ordering_then (nat_cmp i i) o ≡ o
then_same i o = sym (ap (λ (c : Ordering). ordering_then c o) (nat_cmp_is i i Equal refl))

-- the order of the side that is gone through, and then of the other
abbrev own_cmp : Bool → RowPair → RowPair → Ordering
own_cmp true = right_left
own_cmp false = left_right

own_is : (b : Bool) (o r p s : Option ℕ) → own_cmp b (as_pair b o r) (as_pair b p s) ≡ ordering_then (place_cmp o p) (place_cmp r s)
own_is true o r p s = refl
own_is false o r p s = refl

module _ (b : Bool) where
  -- a pair that begins with this row, or with a later one
  record From (a : ℕ) (q : RowPair) : Type 0 where
    row : ℕ
    other : Option ℕ
    above : a ≤ row
    is : q ≡ as_pair b (Some row) other

  -- one that begins with an earlier row stands before it
  row_before : (i : ℕ) (r : Option ℕ) (q : RowPair) → From (i + 1) q → is_lt (own_cmp b q (as_pair b (Some i) r)) ≡ false
  row_before i r q from = ap (λ (x : RowPair). is_lt (own_cmp b x (as_pair b (Some i) r))) from.is ∙ ap is_lt (own_is b (Some from.row) from.other (Some i) r) ∙ then_later i from.row (place_cmp from.other r) (omega (arith, from.above))

  -- and so does each before a pair without such a row
  none_before : (i : ℕ) (r : Option ℕ) (j : ℕ) → is_lt (own_cmp b (as_pair b None (Some j)) (as_pair b (Some i) r)) ≡ false
  none_before i r j = ap is_lt (own_is b None (Some j) (Some i) r)

  -- the pairs of one row

  pair_before : (i j k : ℕ) → j < k → is_lt (own_cmp b (as_pair b (Some i) (Some k)) (as_pair b (Some i) (Some j))) ≡ false
  pair_before i j k lt = ap is_lt (own_is b (Some i) (Some k) (Some i) (Some j) ∙ then_same i (nat_cmp k j)) ∙ not_less j k lt

  alone_last : (i j : ℕ) → is_lt (own_cmp b (as_pair b (Some i) None) (as_pair b (Some i) (Some j))) ≡ false
  alone_last i j = ap is_lt (own_is b (Some i) None (Some i) (Some j) ∙ then_same i Greater)

  pairs_up : (i : ℕ) (js : List ℕ) → Rises js → Up (own_cmp b) (pairs_with b i js)
  pairs_up i [] h = tt
  pairs_up i (j ∷ js) h = (all_map (λ q. is_lt (own_cmp b q (as_pair b (Some i) (Some j))) ≡ false) (λ k. as_pair b (Some i) (Some k)) (λ k. j < k) js h.0 (λ k lt. pair_before i j k lt), pairs_up i js h.1)

  module _ (how : JoinType) where
    given_up : (g t : Bool) (i : ℕ) (js : List ℕ) → Rises js → Up (own_cmp b) (cond g (pairs_with b i js) [] ++ cond t (as_pair b (Some i) None ∷ []) [])
    given_up true true i js h = up_append (own_cmp b) (pairs_with b i js) (as_pair b (Some i) None ∷ []) (pairs_up i js h) (tt, tt)
        (all_map (λ q. Before (own_cmp b) q (as_pair b (Some i) None ∷ [])) (λ j. as_pair b (Some i) (Some j)) (λ j. Unit {0}) js (all_any (λ j. Unit {0}) js (λ j. tt)) (λ j u. (alone_last i j, tt)))
    given_up true false i js h = up_append (own_cmp b) (pairs_with b i js) [] (pairs_up i js h) tt (all_any (λ q. Unit {0}) (pairs_with b i js) (λ q. tt))
    given_up false true i js h = (tt, tt)
    given_up false false i js h = tt

    given_from : (g t : Bool) (i : ℕ) (js : List ℕ) → AllByRecursion (λ q. (r : Option ℕ) × (q ≡ as_pair b (Some i) r)) (cond g (pairs_with b i js) [] ++ cond t (as_pair b (Some i) None ∷ []) [])
    given_from g t i js = all_append (λ q. (r : Option ℕ) × (q ≡ as_pair b (Some i) r)) (cond g (pairs_with b i js) []) (cond t (as_pair b (Some i) None ∷ []) []) (first g) (last t)
      where
        first : (g : Bool) → AllByRecursion (λ q. (r : Option ℕ) × (q ≡ as_pair b (Some i) r)) (cond g (pairs_with b i js) [])
        first true = all_map (λ q. (r : Option ℕ) × (q ≡ as_pair b (Some i) r)) (λ j. as_pair b (Some i) (Some j)) (λ j. Unit {0}) js (all_any (λ j. Unit {0}) js (λ j. tt)) (λ j u. (Some j, refl))
        first false = tt

        last : (t : Bool) → AllByRecursion (λ q. (r : Option ℕ) × (q ≡ as_pair b (Some i) r)) (cond t (as_pair b (Some i) None ∷ []) [])
        last true = ((None, refl), tt)
        last false = tt

    module _ (test : Test) (o : ℕ) where
      abbrev of_row : ℕ → List RowPair
      of_row i = row_given b how i (passing (test i) o)

      rows_from : (c a n : ℕ) → c ≤ a → AllByRecursion (From c) (flat_map of_row (range_with_len a n))
      rows_from c a zero le = tt
      rows_from c a (suc n) le = all_append (From c) (of_row a) (flat_map of_row (range_with_len (a + 1) n))
          (all_weaken (λ q. (r : Option ℕ) × (q ≡ as_pair b (Some a) r)) (From c) (of_row a) (given_from (gives_pairs how) (gives_alone b how (is_any (passing (test a) o))) a (passing (test a) o)) (λ q h. record { row = a; other = h.0; above = le; is = h.1 }))
          (rows_from c (a + 1) n (omega (arith, le)))

      rows_up : (a n : ℕ) → Up (own_cmp b) (flat_map of_row (range_with_len a n))
      rows_up a zero = tt
      rows_up a (suc n) = up_append (own_cmp b) (of_row a) (flat_map of_row (range_with_len (a + 1) n))
          (given_up (gives_pairs how) (gives_alone b how (is_any (passing (test a) o))) a (passing (test a) o) (passing_rises (test a) 0 o))
          (rows_up (a + 1) n)
          (all_weaken (λ q. (r : Option ℕ) × (q ≡ as_pair b (Some a) r)) (λ q. Before (own_cmp b) q (flat_map of_row (range_with_len (a + 1) n))) (of_row a)
          (given_from (gives_pairs how) (gives_alone b how (is_any (passing (test a) o))) a (passing (test a) o))
          (λ q h. all_weaken (From (a + 1)) (λ x. is_lt (own_cmp b x q) ≡ false) (flat_map of_row (range_with_len (a + 1) n)) (rows_from (a + 1) (a + 1) n (omega arith))
          (λ x from. subst (λ (y : RowPair). is_lt (own_cmp b x y) ≡ false) (sym h.1) (row_before a h.0 x from))))

    others_up : (js : List ℕ) → Rises js → Up (own_cmp b) (map (λ j. as_pair b None (Some j)) js)
    others_up [] h = tt
    others_up (j ∷ js) h = (all_map (λ q. is_lt (own_cmp b q (as_pair b None (Some j))) ≡ false) (λ k. as_pair b None (Some k)) (λ k. j < k) js h.0 (λ k lt. ap is_lt (own_is b None (Some k) None (Some j)) ∙ not_less j k lt), others_up js h.1)

    given-up : (test : Test) (n o : ℕ) → Up (own_cmp b) (given_by b how test n o)
    given-up test n o =
        let js = passing (λ j. gives_alone (not b) how (is_right_matched test n j)) o in
        up_append (own_cmp b) (flat_map (of_row test o) (range_with_len 0 n)) (map (λ j. as_pair b None (Some j)) js)
        (rows_up test o 0 n) (others_up js (passing_rises (λ j. gives_alone (not b) how (is_right_matched test n j)) 0 o))
        (all_weaken (From 0) (λ q. Before (own_cmp b) q (map (λ j. as_pair b None (Some j)) js)) (flat_map (of_row test o) (range_with_len 0 n)) (rows_from test o 0 0 n (omega arith))
        (λ q from. all_map (λ x. is_lt (own_cmp b x q) ≡ false) (λ j. as_pair b None (Some j)) (λ j. Unit {0}) js (all_any (λ j. Unit {0}) js (λ j. tt))
        (λ j u. subst (λ (y : RowPair). is_lt (own_cmp b (as_pair b None (Some j)) y) ≡ false) (sym from.is) (none_before from.row from.other j))))

-- where no rows match as pairs, the order by right rows first is that by left rows

then_equal : (c : Ordering) → is_lt (ordering_then c Equal) ≡ is_lt c
then_equal Less = refl
then_equal Equal = refl
then_equal Greater = refl

same_less : (x y : RowPair) → x.right ≡ None → y.right ≡ None → is_lt (right_left y x) ≡ is_lt (left_right y x)
same_less x y e f =
    ap₂ (λ (r s : Option ℕ). is_lt (ordering_then (place_cmp r s) (place_cmp y.left x.left))) f e
    ∙ sym (ap₂ (λ (r s : Option ℕ). is_lt (ordering_then (place_cmp y.left x.left) (place_cmp r s))) f e ∙ then_equal (place_cmp y.left x.left))

lefts_before : (x : RowPair) (ys : List RowPair) → x.right ≡ None → AllByRecursion (λ (q : RowPair). q.right ≡ None) ys → Before left_right x ys → Before right_left x ys
lefts_before x [] e n h = tt
lefts_before x (y ∷ ys) e n h = (same_less x y e n.0 ∙ h.0, lefts_before x ys e n.1 h.1)

lefts_up : (xs : List RowPair) → AllByRecursion (λ (q : RowPair). q.right ≡ None) xs → Up left_right xs → Up right_left xs
lefts_up [] n h = tt
lefts_up (x ∷ xs) n h = (lefts_before x xs n.0 n.1 h.0, lefts_up xs n.1 h.1)

no_rights : (how : JoinType) → gives_pairs how ≡ false → (t : Bool) → gives_alone true how t ≡ false
no_rights kinds.Semi e t = refl
no_rights kinds.Anti e t = refl
no_rights kinds.Inner e t = refl
no_rights kinds.Left e t = refl
no_rights kinds.Cross e t = refl
no_rights kinds.IEJoin e t = refl
no_rights kinds.Right e t = cc
no_rights kinds.Full e t = cc

rows_alone : (how : JoinType) (test : Test) (o a n : ℕ) → gives_pairs how ≡ false → AllByRecursion (λ (q : RowPair). q.right ≡ None) (flat_map (of_row false how test o) (range_with_len a n))
rows_alone how test o a zero e = tt
rows_alone how test o a (suc n) e = all_append (λ (q : RowPair). q.right ≡ None) (of_row false how test o a) (flat_map (of_row false how test o) (range_with_len (a + 1) n))
    (subst (λ (g : Bool). AllByRecursion (λ (q : RowPair). q.right ≡ None) (cond g (pairs_with false a (passing (test a) o)) [] ++ cond (gives_alone false how (is_any (passing (test a) o))) (as_pair false (Some a) None ∷ []) [])) (sym e) (last (gives_alone false how (is_any (passing (test a) o)))))
    (rows_alone how test o (a + 1) n e)
  where
    last : (t : Bool) → AllByRecursion (λ (q : RowPair). q.right ≡ None) (cond t (as_pair false (Some a) None ∷ []) [])
    last true = (refl, tt)
    last false = tt

all_alone : (how : JoinType) (test : Test) (h k : ℕ) → gives_pairs how ≡ false → AllByRecursion (λ (q : RowPair). q.right ≡ None) (given_by false how test h k)
all_alone how test h k e = all_append (λ (q : RowPair). q.right ≡ None) (flat_map (of_row false how test k) (range_with_len 0 h)) (map (λ j. as_pair false None (Some j)) (passing (λ j. gives_alone true how (is_right_matched test h j)) k))
    (rows_alone how test k 0 h e)
    (subst (λ (js : List ℕ). AllByRecursion (λ (q : RowPair). q.right ≡ None) (map (λ j. as_pair false None (Some j)) js)) (sym (passing-none (λ j. gives_alone true how (is_right_matched test h j)) (range_with_len 0 k) (λ j. no_rights how e (is_right_matched test h j)))) tt)

-- what is given row by row is picked

left_first : (how : JoinType) (order : MaintainOrderJoin) (test : Test) (h k : ℕ) → Meets order (given_by false how test h k) → ArePicked how order test h k (given_by false how test h k)
left_first how order test h k meets = record { pairs = left-given how test h k; in_order = meets }

by_left : (how : JoinType) (test : Test) (h k : ℕ) → ArePicked how orders.LeftRight test h k (given_by false how test h k)
by_left how test h k = left_first how orders.LeftRight test h k (up_sorted left_right (given_by false how test h k) (given-up false how test h k))

abbrev own_pairs : (by_right : Bool) → JoinType → Test → (h k : ℕ) → List RowPair
own_pairs true how test h k = given_by true how (flipped test) k h
own_pairs false how test h k = given_by false how test h k

by_right : (how : JoinType) (test : Test) (h k : ℕ) (g : Bool) → gives_pairs how ≡ g → ArePicked how orders.RightLeft test h k (own_pairs g how test h k)
by_right how test h k true e = record { pairs = right-given how test h k; in_order = up_sorted right_left (given_by true how (flipped test) k h) (given-up true how (flipped test) k h) }
by_right how test h k false e = left_first how orders.RightLeft test h k
    (up_sorted right_left (given_by false how test h k) (lefts_up (given_by false how test h k) (all_alone how test h k e) (given-up false how test h k)))

own_picked : (how : JoinType) (order : MaintainOrderJoin) (test : Test) (h k : ℕ) → ArePicked how (own_order order) test h k (own_pairs (goes_right how order) how test h k)
own_picked how orders.None test h k = by_left how test h k
own_picked how orders.Left test h k = by_left how test h k
own_picked how orders.LeftRight test h k = by_left how test h k
own_picked how orders.Right test h k = by_right how test h k (gives_pairs how) refl
own_picked how orders.RightLeft test h k = by_right how test h k (gives_pairs how) refl

given_own : (b : Bool) (how : JoinType) (test : Test) (h k : ℕ) (m : Matches) → AreJoined b test h k m → own_pairs b how test h k ≡ all_given b how m
given_own true how test h k m are = sym (given-matched true how (flipped test) k h m are)
given_own false how test h k m are = sym (given-matched false how test h k m are)

-- and so is what is given of matched rows
pub given-picked : (how : JoinType) (order : MaintainOrderJoin) (test : Test) (h k : ℕ) (m : Matches) → AreJoined (goes_right how order) test h k m → ArePicked how (own_order order) test h k (all_given (goes_right how order) how m)
given-picked how order test h k m are = subst (ArePicked how (own_order order) test h k) (given_own (goes_right how order) how test h k m are) (own_picked how order test h k)

-- the order of both sides is that of one

less_then : (a b : Ordering) → is_lt (ordering_then a b) ≡ false → is_lt a ≡ false
less_then Less b e = e
less_then Equal b e = refl
less_then Greater b e = refl

module _ (s r : RowPair → Option ℕ) where
  abbrev by : RowPair → RowPair → Ordering
  by p q = ordering_then (place_cmp (s p) (s q)) (place_cmp (r p) (r q))

  absent : (p : RowPair) (ps : List RowPair) → s p ≡ None → Ascends by (p ∷ ps) → filter_map s ps ≡ []
  absent p [] e h = refl
  absent p (q ∷ ps) e h = at (λ f. absent q ps f h.1) (s q) refl
    where
      at : (s q ≡ None → filter_map s ps ≡ []) → (o : Option ℕ) → s q ≡ o → cons_option o (filter_map s ps) ≡ []
      at rest (Some j) f = absurd (true≢false (sym (ap₂ (λ (x y : Option ℕ). is_lt (ordering_then (place_cmp x y) (place_cmp (r q) (r p)))) f e) ∙ h.0))
      at rest None f = rest f

  present : (p : RowPair) (ps : List RowPair) (i : ℕ) → s p ≡ Some i → Ascends by (p ∷ ps) → Ascends nat_cmp (i ∷ filter_map s ps)
  present p [] i e h = tt
  present p (q ∷ ps) i e h = at (λ j f. present q ps j f h.1) (s q) refl
    where
      at : ((j : ℕ) → s q ≡ Some j → Ascends nat_cmp (j ∷ filter_map s ps)) → (o : Option ℕ) → s q ≡ o → Ascends nat_cmp (i ∷ cons_option o (filter_map s ps))
      at rest (Some j) f = (less_then (nat_cmp j i) (place_cmp (r q) (r p)) (sym (ap₂ (λ (x y : Option ℕ). is_lt (ordering_then (place_cmp x y) (place_cmp (r q) (r p)))) f e) ∙ h.0), rest j f)
      at rest None f = subst (λ (js : List ℕ). Ascends nat_cmp (i ∷ js)) (sym (absent q ps f h.1)) tt

  side_ascends : (ps : List RowPair) → Ascends by ps → Ascends nat_cmp (filter_map s ps)
  side_ascends [] h = tt
  side_ascends (p ∷ ps) h = at (s p) refl
    where
      at : (o : Option ℕ) → s p ≡ o → Ascends nat_cmp (cons_option o (filter_map s ps))
      at (Some i) e = present p ps i e h
      at None e = subst (Ascends nat_cmp) (sym (absent p ps e h)) tt

  side_sorted : (ps : List RowPair) → IsSorted by ps → IsSorted nat_cmp (filter_map s ps)
  side_sorted ps h = ascends_sorted nat_cmp (filter_map s ps) (side_ascends ps (sorted_ascends by ps h))

pub own-asked : (order : MaintainOrderJoin) (ps : List RowPair) → Meets (own_order order) ps → Meets order ps
own-asked orders.None ps h = tt
own-asked orders.Left ps h = side_sorted (λ (p : RowPair). p.left) (λ (p : RowPair). p.right) ps h
own-asked orders.Right ps h = side_sorted (λ (p : RowPair). p.right) (λ (p : RowPair). p.left) ps h
own-asked orders.LeftRight ps h = h
own-asked orders.RightLeft ps h = h

-- there are pairs that a join may give
pub picked-exists : (how : JoinType) (order : MaintainOrderJoin) (test : Test) (h k : ℕ) → (ps : List RowPair) × ArePicked how order test h k ps
picked-exists how order test h k =
    let own = own_picked how order test h k in
    (own_pairs (goes_right how order) how test h k, record { pairs = own.pairs; in_order = own-asked order (own_pairs (goes_right how order) how test h k) own.in_order })
