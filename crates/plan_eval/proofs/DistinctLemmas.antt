-- The rows that are kept part by part are kept of all rows.
use Rattle.std.proofs.Common.{◌≡◌, ◌⊎◌, inl, inr, true≢false, unwrap_or, add-one, cond, replicate, ℕ, zero, suc, ◌+◌, ◌-◌, ◌<◌, ◌≤◌, ◌||◌, Bool, true, false, not, List, [], ◌∷◌, map, length, get_or, Option, Some, None, refl, sym, ap, ap₂, ◌∙◌, subst, arith, eqb-true, eq-eqb}
use Rattle.std.specs.Prelude.{nat_eq}
use Rattle.std.specs.Cmp.{IsEquivalence, nat_cmp_is}
use Rattle.std.specs.List.{AllByRecursion, IsDistinct, cons_option, filter_map, list_any, range_with_len, slice_get}
use Rattle.std.specs.List.Sorted.{IsPermutation, IsSorted}
use Rattle.std.specs.Ordering.{is_lt, nat_cmp}
use Rattle.std.specs.declared.cmp.Ordering.TheVariants.{Greater}
use Rattle.std.proofs.lemmas.Bool.{cases_lt}
use Rattle.std.proofs.lemmas.List.{get_or_default, length-replicate, same_lists}
use Rattle.std.proofs.lemmas.List.Elements.{All-from_recursion, recursion_from_All}
use Rattle.std.proofs.lemmas.List.FromFn.{get_or-map-range_with_len, get_or-range_with_len, length-map-range_with_len, length-range_with_len}
use Rattle.std.proofs.lemmas.Option.{slice_get-get_or}
use Rattle.std.proofs.lemmas.List.Sorted.{All-permutation, IsPermutation-refl, list_any-IsPermutation}
use Rattle.std.proofs.lemmas.Map.Keys.{IsDistinct-IsPermutation, IsDistinct-cons}
use Rattle.plan_options.specs.declared.distinct.UniqueKeepStrategy.{UniqueKeepStrategy}
use Rattle.plan_options.specs.declared.distinct.UniqueKeepStrategy.TheVariants as keeps
use Rattle.plan_frame.specs.Meaning.{Cell, are_alike, places_from, rows_alike}
use Rattle.plan_frame.specs.Orders.{AreKept, has_earlier, has_later, may_be_kept, must_be_kept}
use Rattle.plan_frame.proofs.KeptRows.{alike_equivalence, none_pass, or_first, or_second}
use Rattle.plan_value.specs.declared.exprs.Values.{Values}
use Rattle.plan_value.specs.Cells.{cells_of}
use Rattle.plan_value.specs.Groups.{AreNumbered, rows_numbered}
use Rattle.plan_value.proofs.WindowLemmas.{places-same}
use Rattle.plan_meaning.specs.Choices.{AreChosen, first_same, settled}
use Rattle.plan_eval.specs.Distinct.{kept, kept_of, only}
use Rattle.plan_meaning.proofs.FarApart.{near-sorted}
use Rattle.plan_meaning.proofs.FirstPassing.{NoneWithin, Passes, first-passes, first-there, later-number, neither}
use Rattle.plan_eval.proofs.PartLemmas.{last-passes, last-there, only-passes, only-there}

-- What is chosen of each of so many parts

module _ (chosen : ℕ → Option ℕ) where
  abbrev pub gathered : ℕ → ℕ → List ℕ
  gathered a n = filter_map chosen (range_with_len a n)

  gathered-each : (P : ℕ → Type 0) (a n : ℕ) → ((g i : ℕ) → a ≤ g → g < a + n → chosen g ≡ Some i → P i) → AllByRecursion P (gathered a n)
  gathered-each P a zero by = tt
  gathered-each P a (suc n) by = at (chosen a) refl (gathered-each P (a + 1) n (λ g i from below e. by g i (omega (arith, from)) (omega (arith, below)) e))
    where
      at : (o : Option ℕ) → chosen a ≡ o → AllByRecursion P (gathered (a + 1) n) → AllByRecursion P (cons_option o (gathered (a + 1) n))
      at None e rest = rest
      at (Some i) e rest = (by a i (omega arith) (omega arith) e, rest)

  pub gathered-apart : (same : ℕ → ℕ → Bool) (a n : ℕ) → ((g k i j : ℕ) → g < k → k < a + n → chosen g ≡ Some i → chosen k ≡ Some j → same i j ≡ false) → IsDistinct same (gathered a n)
  unfolding IsDistinct
  gathered-apart same a zero by = tt
  gathered-apart same a (suc n) by = at (chosen a) refl (gathered-apart same (a + 1) n (λ g k i j lt below e f. by g k i j lt (omega (arith, below)) e f))
    where
      at : (o : Option ℕ) → chosen a ≡ o → IsDistinct same (gathered (a + 1) n) → IsDistinct same (cons_option o (gathered (a + 1) n))
      at None e rest = rest
      at (Some i) e rest =
          IsDistinct-cons same i (gathered (a + 1) n) (gathered-each (λ j. same i j ≡ false) (a + 1) n (λ k j from below f. by a k i j (omega (arith, from)) (omega (arith, below)) e f)) rest

  gathered-meets : (test : ℕ → Bool) (a n g i : ℕ) → a ≤ g → g < a + n → chosen g ≡ Some i → test i ≡ true → list_any test (gathered a n) ≡ true
  gathered-meets test a zero g i from below e f = absurd (omega (arith, from, below))
  gathered-meets test a (suc n) g i from below e f = at (nat_eq a g) refl (λ later. gathered-meets test (a + 1) n g i (omega (arith, later)) (omega (arith, below)) e f)
    where
      with-head : (o : Option ℕ) → list_any test (gathered (a + 1) n) ≡ true → list_any test (cons_option o (gathered (a + 1) n)) ≡ true
      with-head None r = r
      with-head (Some k) r = or_second (test k) (list_any test (gathered (a + 1) n)) r

      at : (b : Bool) → nat_eq a g ≡ b → (suc a ≤ g → list_any test (gathered (a + 1) n) ≡ true) → list_any test (gathered a (suc n)) ≡ true
      at true q rest =
          subst (λ (o : Option ℕ). list_any test (cons_option o (gathered (a + 1) n)) ≡ true) (sym (ap chosen (eqb-true a g q) ∙ e)) (or_first (test i) (list_any test (gathered (a + 1) n)) f)
      at false q rest = with-head (chosen a) (rest (later-number a g from q))

pub kept-parts : (keep : UniqueKeepStrategy) (part : ℕ → List ℕ) (gs : List ℕ) → kept keep (map part gs) ≡ filter_map (λ g. kept_of keep (part g)) gs
kept-parts keep part [] = refl
kept-parts keep part (g ∷ gs) = ap (cons_option (kept_of keep (part g))) (kept-parts keep part gs)

-- Tests of numbers one after another

none-any : (test : ℕ → Bool) (a n : ℕ) → NoneWithin test a (a + n) → list_any test (range_with_len a n) ≡ false
none-any test a zero h = refl
none-any test a (suc n) h = ap₂ (λ (b c : Bool). b || c) (h a (omega arith) (omega arith)) (none-any test (a + 1) n (λ j from below. h j (omega (arith, from)) (omega (arith, below))))

below-differ : (g k : ℕ) → g < k → nat_eq g k ≡ false
below-differ g k lt = at (nat_eq g k) refl
  where
    at : (b : Bool) → nat_eq g k ≡ b → b ≡ false
    at true q = let same = eqb-true g k q in absurd (omega (arith, same, lt))
    at false q = refl

-- Rows with numbers, two of which have the same one just where they are the same

module _ (same : ℕ → ℕ → Bool) (h count : ℕ) (number : ℕ → ℕ) (within : (i : ℕ) → i < h → number i < count) (is : (i j : ℕ) → i < h → j < h → nat_eq (number i) (number j) ≡ same i j) where
  -- the rows that have a number
  abbrev pub part : ℕ → List ℕ
  part g = places_from (λ i. nat_eq g (number i)) 0 h

  pub record IsKept (keep : UniqueKeepStrategy) (g i : ℕ) : Type 0 where
    pub row : i < h
    pub has : g ≡ number i
    pub may : may_be_kept keep same h i ≡ true

  -- rows with another number are others
  others : (g i a b : ℕ) → i < h → b ≤ h → g ≡ number i → NoneWithin (λ j. nat_eq g (number j)) a b → NoneWithin (same i) a b
  others g i a b lt le has none j from below =
      let inside : j < h = omega (arith, le, below) in
      sym (is i j lt inside) ∙ ap (λ (k : ℕ). nat_eq k (number j)) (sym has) ∙ none j from below

  no-earlier : (g i : ℕ) → i < h → g ≡ number i → NoneWithin (λ j. nat_eq g (number j)) 0 i → has_earlier same i ≡ false
  no-earlier g i lt has none = none-any (same i) 0 i (λ j from below. others g i 0 i lt (omega (arith, lt)) has none j from (omega (arith, below)))

  no-later : (g i : ℕ) → i < h → g ≡ number i → NoneWithin (λ j. nat_eq g (number j)) (suc i) h → has_later same h i ≡ false
  no-later g i lt has none = none-any (same i) (suc i) (h - suc i) (λ j from below. others g i (suc i) h lt (omega arith) has none j from (omega (arith, lt, below)))

  row-of : (g i : ℕ) → Passes (λ j. nat_eq g (number j)) 0 h i → (i < h) × (g ≡ number i)
  row-of g i p = let q = p.below in (omega (arith, q), eqb-true g (number i) p.passes)

  -- what is kept of a part is of the part, and may be kept
  pub is-kept : (keep : UniqueKeepStrategy) (g i : ℕ) → kept_of keep (part g) ≡ Some i → IsKept keep g i
  is-kept keeps.First g i e =
      let r = first-passes (λ j. nat_eq g (number j)) 0 h i e in
      let p = row-of g i r.0 in
      record { row = p.0; has = p.1; may = ap not (no-earlier g i p.0 p.1 r.1) }
  is-kept keeps.Last g i e =
      let r = last-passes (λ j. nat_eq g (number j)) 0 h i e in
      let p = row-of g i r.0 in
      record { row = p.0; has = p.1; may = ap not (no-later g i p.0 p.1 (λ j from below. r.1 j from (omega (arith, below)))) }
  is-kept keeps.None g i e =
      let r = only-passes (λ j. nat_eq g (number j)) 0 h i e in
      let p = row-of g i r.0 in
      record { row = p.0; has = p.1; may = ap₂ (λ (a b : Bool). not (a || b)) (no-earlier g i p.0 p.1 r.1) (no-later g i p.0 p.1 (λ j from below. r.2 j from (omega (arith, below)))) }
  is-kept keeps.Any g i e =
      let r = first-passes (λ j. nat_eq g (number j)) 0 h i e in
      let p = row-of g i r.0 in
      record { row = p.0; has = p.1; may = refl }

  own : (i : ℕ) → nat_eq (number i) (number i) ≡ true
  own i = eq-eqb (number i) (number i) refl

  -- of the part of a row that must be kept one is
  pub one-kept : (keep : UniqueKeepStrategy) (i : ℕ) → i < h → must_be_kept keep same h i ≡ true → (j : ℕ) × (kept_of keep (part (number i)) ≡ Some j)
  one-kept keeps.First i lt e = first-there (λ j. nat_eq (number i) (number j)) h i lt (own i)
  one-kept keeps.Last i lt e = last-there (λ j. nat_eq (number i) (number j)) h i lt (own i)
  one-kept keeps.Any i lt e = first-there (λ j. nat_eq (number i) (number j)) h i lt (own i)
  one-kept keeps.None i lt e =
      let n = neither (has_earlier same i) (has_later same h i) e in (
        i,
        only-there (λ j. nat_eq (number i) (number j)) h i lt (own i)
            (λ j from below. is i j lt (omega (arith, lt, below)) ∙ none_pass (same i) 0 i j n.0 from (omega (arith, below)))
            (λ j from below. is i j lt below ∙ none_pass (same i) (suc i) (h - suc i) j n.1 from (omega (arith, lt, below))),
      )

  module _ (keep : UniqueKeepStrategy) where
    abbrev pub chosen : ℕ → Option ℕ
    chosen g = kept_of keep (part g)

    below-all : AllByRecursion (λ i. i < h) (gathered chosen 0 count)
    below-all = gathered-each chosen (λ i. i < h) 0 count (λ g i from below e. (is-kept keep g i e).row)

    may-all : AllByRecursion (λ i. may_be_kept keep same h i ≡ true) (gathered chosen 0 count)
    may-all = gathered-each chosen (λ i. may_be_kept keep same h i ≡ true) 0 count (λ g i from below e. (is-kept keep g i e).may)

    apart-all : IsDistinct same (gathered chosen 0 count)
    apart-all = gathered-apart chosen same 0 count (λ g k i j lt below e f.
        let a = is-kept keep g i e in
        let b = is-kept keep k j f in
        sym (is i j a.row b.row) ∙ ap₂ nat_eq (sym a.has) (sym b.has) ∙ below-differ g k lt)

    met-all : (i : ℕ) → i < h → must_be_kept keep same h i ≡ true → list_any (same i) (gathered chosen 0 count) ≡ true
    met-all i lt e =
        let k = one-kept keep i lt e in
        let a = is-kept keep (number i) k.0 k.1 in
        gathered-meets chosen (same i) 0 count (number i) k.0 (omega arith) (let q = within i lt in omega (arith, q)) k.1
        (sym (is i k.0 lt a.row) ∙ eq-eqb (number i) (number k.0) a.has)

    -- in another order too
    pub are-kept : (stable : Bool) (rows : List ℕ) → IsEquivalence same → IsPermutation (kept keep (map part (range_with_len 0 count))) rows → (stable ≡ true → IsSorted nat_cmp rows) → AreKept stable keep same h rows
    are-kept stable rows o moved sorted =
        let all = gathered chosen 0 count in
        let p : IsPermutation all rows = subst (λ (l : List ℕ). IsPermutation l rows) (kept-parts keep part (range_with_len 0 count)) moved in
        record {
          below = recursion_from_All (λ i. i < h) rows (All-permutation (λ i. i < h) all rows p (All-from_recursion (λ i. i < h) all below-all));
          apart = IsDistinct-IsPermutation same o.symm all rows p apart-all;
          may = recursion_from_All (λ i. may_be_kept keep same h i ≡ true) rows (All-permutation (λ i. may_be_kept keep same h i ≡ true) all rows p (All-from_recursion (λ i. may_be_kept keep same h i ≡ true) all may-all));
          must = λ i lt e. sym (list_any-IsPermutation (same i) all rows p) ∙ met-all i lt e;
          in_order = sorted;
        }

-- parts by the numbers of their rows
pub parts-are : (numbers : List ℕ) (h count : ℕ) (parts : List (List ℕ)) → length numbers ≡ h → length parts ≡ count → ((g : ℕ) → g < count → get_or parts g [] ≡ rows_numbered numbers g)
    → parts ≡ map (λ g. places_from (λ i. nat_eq g (get_or numbers i 0)) 0 h) (range_with_len 0 count)
parts-are numbers h count parts high many-parts each =
    let own : ℕ → List ℕ = λ (g : ℕ). places_from (λ i. nat_eq g (get_or numbers i 0)) 0 h in
    same_lists parts (map own (range_with_len 0 count)) (many-parts ∙ sym (length-map-range_with_len own 0 count)) (λ k d lt.
    let below : k < count = omega (arith, many-parts, lt) in
    get_or_default parts k d [] lt
    ∙ each k below
    ∙ ap (places_from (λ i. nat_eq k (get_or numbers i 0)) 0) high
    ∙ sym (get_or-map-range_with_len own 0 count k k d below (omega arith)))

-- the rows that are kept of the groups of rows that are the same
pub groups-kept : (cells : List Cell) (h count : ℕ) (numbers : List ℕ) (parts : List (List ℕ)) (rows : List ℕ) (stable : Bool) (keep : UniqueKeepStrategy)
    → AreNumbered cells h count numbers → length parts ≡ count → ((g : ℕ) → g < count → get_or parts g [] ≡ rows_numbered numbers g)
    → IsPermutation (kept keep parts) rows → (stable ≡ true → IsSorted nat_cmp rows) → AreKept stable keep (are_alike cells) h rows
groups-kept cells h count numbers parts rows stable keep n many-parts each moved sorted =
    are-kept (are_alike cells) h count (λ i. get_or numbers i 0) n.below n.same keep stable rows (alike_equivalence cells)
    (subst (λ (l : List (List ℕ)). IsPermutation (kept keep l) rows) (parts-are numbers h count parts n.height many-parts each) moved) sorted

-- Groups by their first rows

module _ (cells : List Cell) (h count : ℕ) (numbers : List ℕ) (n : AreNumbered cells h count numbers) where
  abbrev same : ℕ → ℕ → Bool
  same = are_alike cells

  abbrev number : ℕ → ℕ
  number i = get_or numbers i 0

  abbrev own-part : ℕ → List ℕ
  own-part = part same h count number n.below n.same

  -- the rows that are the same as one of a group are the group
  pub alike-part : (g i : ℕ) → i < h → g ≡ number i → rows_alike cells h i ≡ own-part g
  alike-part g i lt has = places-same (same i) (λ (j : ℕ). nat_eq g (number j)) 0 h (λ j from below. sym (n.same i j lt (omega (arith, below))) ∙ ap (λ (m : ℕ). nat_eq m (number j)) (sym has))

  -- the first row of each group comes before those of later groups
  pub first-before : (k l i j : ℕ) → k < l → l < count → slice_get (own-part k) 0 ≡ Some i → slice_get (own-part l) 0 ≡ Some j → is_lt (nat_cmp j i) ≡ false
  first-before k l i j lt below e f =
      let b = is-kept same h count number n.below n.same keeps.First l j f in
      let there = b.has in
      let w = n.first j b.row k (omega (arith, lt, there)) in
      let none = (first-passes (λ m. nat_eq k (number m)) 0 h i e).1 in
      let early : w.0 < i → nat_eq k (number w.0) ≡ false = λ less. none w.0 (omega arith) less in
      let late : i ≤ w.0 = at w.0 (eq-eqb k (number w.0) (sym w.2)) early (cases_lt w.0 i) in
      sym (ap is_lt (nat_cmp_is j i Greater (let p = w.1 in omega (arith, p, late))))
    where
      at : (m : ℕ) → nat_eq k (number m) ≡ true → (m < i → nat_eq k (number m) ≡ false) → (m < i) ⊎ (i ≤ m) → i ≤ m
      at m q early (inl less) = absurd (true≢false (sym q ∙ early less))
      at m q early (inr le) = le

  -- the first row that is the same as one of a group is the first of the group
  own-first : (g i : ℕ) → i < h → g ≡ number i → (j : ℕ) × (slice_get (own-part g) 0 ≡ Some j) × (first_same same h i ≡ j)
  own-first g i lt has =
      let f = first-there (λ j. nat_eq g (number j)) h i lt (eq-eqb g (number i) has) in
      (f.0, f.1, ap (λ (rows : List ℕ). unwrap_or (slice_get rows 0) i) (alike-part g i lt has) ∙ ap (λ (o : Option ℕ). unwrap_or o i) f.1)

  module _ (keep : UniqueKeepStrategy) where
    chosen-before : (k l i j : ℕ) → k < l → l < count → kept_of keep (own-part k) ≡ Some i → kept_of keep (own-part l) ≡ Some j → is_lt (nat_cmp (first_same same h j) (first_same same h i)) ≡ false
    chosen-before k l i j lt below e f =
        let a = is-kept same h count number n.below n.same keep k i e in
        let b = is-kept same h count number n.below n.same keep l j f in
        let p = own-first k i a.row a.has in
        let q = own-first l j b.row b.has in
        ap₂ (λ (x y : ℕ). is_lt (nat_cmp x y)) q.2 p.2 ∙ first-before k l p.0 q.0 lt below p.1 q.1

    -- the rows that are kept part by part stand by the first rows of their groups
    by-firsts : IsSorted (λ i j. nat_cmp (first_same same h i) (first_same same h j)) (kept keep (map own-part (range_with_len 0 count)))
    by-firsts =
        subst (IsSorted (λ i j. nat_cmp (first_same same h i) (first_same same h j))) (sym (kept-parts keep own-part (range_with_len 0 count)))
        (near-sorted (λ i j. nat_cmp (first_same same h i) (first_same same h j)) (gathered (λ g. kept_of keep (own-part g)) 0 count)
        (gathered-apart (λ g. kept_of keep (own-part g)) (λ i j. is_lt (nat_cmp (first_same same h j) (first_same same h i))) 0 count (λ k l i j lt below. chosen-before k l i j lt (omega (arith, below)))))

-- what is kept of parts is what is kept of them in the settled way
settled-kept : (keep : UniqueKeepStrategy) (parts : List (List ℕ)) → kept (settled keep) parts ≡ kept keep parts
settled-kept keeps.First parts = refl
settled-kept keeps.Last parts = refl
settled-kept keeps.None parts = refl
settled-kept keeps.Any parts = refl

-- the rows that are kept of the groups are those that are chosen
pub groups-chosen : (cells : List Cell) (h count : ℕ) (numbers : List ℕ) (parts : List (List ℕ)) (rows : List ℕ) (stable : Bool) (keep : UniqueKeepStrategy)
    → AreNumbered cells h count numbers → length parts ≡ count → ((g : ℕ) → g < count → get_or parts g [] ≡ rows_numbered numbers g)
    → IsPermutation (kept keep parts) rows → (stable ≡ true → IsSorted nat_cmp rows) → (stable ≡ false → rows ≡ kept keep parts) → AreChosen stable keep (are_alike cells) h rows
groups-chosen cells h count numbers parts rows stable keep n many-parts each moved sorted by-parts = record {
  kept = groups-kept cells h count numbers parts rows stable (settled keep) n many-parts each (subst (λ (l : List ℕ). IsPermutation l rows) (sym (settled-kept keep parts)) moved) sorted;
  by_firsts = λ e. subst (IsSorted (λ i j. nat_cmp (first_same (are_alike cells) h i) (first_same (are_alike cells) h j))) (sym (by-parts e ∙ ap (kept keep) (parts-are numbers h count parts n.height many-parts each))) (by-firsts cells h count numbers n keep);
}

-- Without columns all rows are the same

IsDistinct-none : IsDistinct (λ (i j : ℕ). is_lt (nat_cmp j i)) []
unfolding IsDistinct
IsDistinct-none = tt

zeros-there : (h i : ℕ) → ◌≡◌ {A = ℕ} (get_or (replicate h 0) i 0) 0
zeros-there zero i = refl
zeros-there (suc h) zero = refl
zeros-there (suc h) (suc i) = zeros-there h i

all-pass : (test : ℕ → Bool) (a n : ℕ) → ((i : ℕ) → test i ≡ true) → places_from test a n ≡ range_with_len a n
all-pass test a zero t = refl
all-pass test a (suc n) t =
    ap (λ (b : Bool). cond b (a ∷ places_from test (suc a) n) (places_from test (suc a) n)) (t a)
    ∙ ap (λ (l : List ℕ). a ∷ l) (all-pass test (suc a) n t)
    ∙ ap (λ (k : ℕ). a ∷ range_with_len k n) (sym (add-one a))

alike-numbered : (n : ℕ) → AreNumbered [] (suc n) 1 (replicate (suc n) 0)
alike-numbered n = record {
  height = length-replicate (suc n) 0;
  below = λ i lt. let z = zeros-there (suc n) i in omega (arith, z);
  same = λ i j p q. ap₂ nat_eq (zeros-there (suc n) i) (zeros-there (suc n) j);
  first = λ i lt g low. let z = zeros-there (suc n) i in absurd (omega (arith, low, z));
  all = λ g lt. let q : 0 ≡ g = omega (arith, lt) in (0, omega arith, q);
}

none-numbered : AreNumbered [] 0 0 []
none-numbered = record {
  height = refl;
  below = λ i lt. absurd (omega (arith, lt));
  same = λ i j p q. absurd (omega (arith, p));
  first = λ i lt g low. absurd (omega (arith, lt));
  all = λ g lt. absurd (omega (arith, lt));
}

alike-rows : (n g : ℕ) → g < 1 → get_or (range_with_len 0 (suc n) ∷ []) g [] ≡ rows_numbered (replicate (suc n) 0) g
alike-rows n zero lt =
    let test : ℕ → Bool = λ (i : ℕ). nat_eq 0 (get_or (replicate (suc n) 0) i 0) in
    sym (ap (places_from test 0) (length-replicate (suc n) 0) ∙ all-pass test 0 (suc n) (λ i. ap (nat_eq 0) (zeros-there (suc n) i)))
alike-rows n (suc g) lt = absurd (omega (arith, lt))

one-sorted : (o : Option ℕ) → IsSorted nat_cmp (cons_option o [])
one-sorted o = near-sorted nat_cmp (cons_option o []) (at o)
  where
    at : (o : Option ℕ) → IsDistinct (λ i j. is_lt (nat_cmp j i)) (cons_option o [])
    at None = IsDistinct-none
    at (Some i) = IsDistinct-cons (λ i j. is_lt (nat_cmp j i)) i [] tt IsDistinct-none

none-kept : (keep : UniqueKeepStrategy) → kept_of keep [] ≡ None
none-kept keeps.First = refl
none-kept keeps.Last = refl
none-kept keeps.None = refl
none-kept keeps.Any = refl

-- the last of so many rows, and the only one
pub last-of-all : (h : ℕ) → 0 < h → slice_get (range_with_len 0 h) (length (range_with_len 0 h) - 1) ≡ Some (h - 1)
last-of-all h lt =
    let long = length-range_with_len 0 h in
    let q : length (range_with_len 0 h) - 1 ≡ h - 1 = omega (arith, long) in
    let below : h - 1 < h = omega (arith, lt) in
    let there : h - 1 < length (range_with_len 0 h) = omega (arith, long, below) in
    let place : 0 + (h - 1) ≡ h - 1 = omega arith in
    ap (slice_get (range_with_len 0 h)) q ∙ slice_get-get_or (range_with_len 0 h) (h - 1) 0 there ∙ ap (λ (n : ℕ). Some n) (get_or-range_with_len 0 h (h - 1) 0 below ∙ place)

pub none-alone : (h : ℕ) → (h ≡ 1 → ⊥) → None ≡ only (range_with_len 0 h)
none-alone zero n = refl
none-alone (suc zero) n = absurd (n refl)
none-alone (suc (suc h)) n = refl

pub no-cells : (columns : List Values) → length columns < 1 → cells_of columns ≡ []
no-cells [] lt = refl
no-cells (c ∷ cs) lt = absurd (omega (arith, lt))

pub alike-chosen : (stable : Bool) (keep : UniqueKeepStrategy) (h : ℕ) → AreChosen stable keep (are_alike []) h (cons_option (kept_of keep (range_with_len 0 h)) [])
alike-chosen stable keep zero =
    let rows : List ℕ = cons_option (kept_of keep []) [] in
    let none : rows ≡ [] = ap (λ (o : Option ℕ). cons_option o []) (none-kept keep) in
    groups-chosen [] 0 0 [] [] rows stable keep none-numbered refl (λ g lt. absurd (omega (arith, lt)))
    (subst (IsPermutation []) (sym none) (IsPermutation-refl [])) (λ e. one-sorted (kept_of keep [])) (λ e. none)
alike-chosen stable keep (suc n) =
    let all : List ℕ = range_with_len 0 (suc n) in
    groups-chosen [] (suc n) 1 (replicate (suc n) 0) (all ∷ []) (cons_option (kept_of keep all) []) stable keep (alike-numbered n) refl (alike-rows n)
    (IsPermutation-refl (cons_option (kept_of keep all) [])) (λ e. one-sorted (kept_of keep all)) (λ e. refl)
