-- What is given, row by row, is what a join gives, in another order.
use Rattle.std.proofs.Common.{◌≡◌, ◌∙◌, ◌++◌, ◌<◌, ℕ, Bool, true, false, not, cond, List, [], ◌∷◌, map, length, Some, None, refl, sym, ap, ap₂, subst}
use Rattle.std.specs.Prelude.{nat_eq}
use Rattle.std.specs.List.{filter as only_where, flat_map, list_any, range_with_len}
use Rattle.std.specs.List.Sorted.{IsPermutation}
use Rattle.std.proofs.lemmas.List.{append_assoc}
use Rattle.std.proofs.lemmas.List.Sorted.{IsPermutation-append, IsPermutation-append_comm, IsPermutation-append_left, IsPermutation-append_right, IsPermutation-refl, IsPermutation-sym, IsPermutation-trans}
use Rattle.plan_options.specs.declared.join.JoinType.{JoinType}
use Rattle.plan_join.specs.declared.matches.Matches.{Matches}
use Rattle.plan_join.specs.declared.pairs.RowPair.{RowPair}
use Rattle.plan_join.specs.Pairs.{Test, both, gives_pairs, is_left_matched, is_right_matched, join_pairs, left_alone, matched, passing, right_alone}
use Rattle.plan_join.specs.Rows.{matches_of, flipped, AreMatches}
use Rattle.plan_join.specs.Given.{all_given, as_pair, gives_alone, is_any, is_met, pairs_with, row_given}
use Rattle.plan_join.proofs.PlaceLemmas.{among, any-below, any-passing, flat-below, passing-below}

-- two lists made of each element, apart

-- the first list behind the second
front : {A : Type 0} (a b c : List A) → IsPermutation (a ++ (b ++ c)) (b ++ (a ++ c))
front {A = A} a b c = subst (λ (l : List A). IsPermutation l (b ++ (a ++ c))) (append_assoc a b c) (subst (IsPermutation ((a ++ b) ++ c)) (append_assoc b a c) (IsPermutation-append_left c (a ++ b) (b ++ a) (IsPermutation-append_comm a b)))

module _ {X A : Type 0} where
  pub apart : (f g : X → List A) (xs : List X) → IsPermutation (flat_map (λ x. f x ++ g x) xs) (flat_map f xs ++ flat_map g xs)
  apart f g [] = IsPermutation-refl []
  apart f g (x ∷ xs) =
      let rest = apart f g xs in
      let fs = flat_map f xs in
      let gs = flat_map g xs in
      let whole = IsPermutation-append_right (f x ++ g x) (flat_map (λ y. f y ++ g y) xs) (fs ++ gs) rest in
      let moved : IsPermutation ((f x ++ g x) ++ (fs ++ gs)) ((f x ++ fs) ++ (g x ++ gs)) =
      subst (λ (l : List A). IsPermutation l ((f x ++ fs) ++ (g x ++ gs))) (sym (append_assoc (f x) (g x) (fs ++ gs)))
      (subst (IsPermutation (f x ++ (g x ++ (fs ++ gs)))) (sym (append_assoc (f x) fs (g x ++ gs)))
      (IsPermutation-append_right (f x) (g x ++ (fs ++ gs)) (fs ++ (g x ++ gs)) (front (g x) fs gs))) in
      IsPermutation-trans ((f x ++ g x) ++ flat_map (λ y. f y ++ g y) xs) ((f x ++ g x) ++ (fs ++ gs)) ((f x ++ fs) ++ (g x ++ gs)) whole moved

  -- an element alone where it passes
  pub alone : (p : X → Bool) (f : X → A) (xs : List X) → flat_map (λ x. cond (p x) (f x ∷ []) []) xs ≡ map f (only_where p xs)
  alone p f [] = refl
  alone p f (x ∷ xs) = at (alone p f xs) (p x)
    where
      at : flat_map (λ y. cond (p y) (f y ∷ []) []) xs ≡ map f (only_where p xs) → (b : Bool) → cond b (f x ∷ []) [] ++ flat_map (λ y. cond (p y) (f y ∷ []) []) xs ≡ map f (cond b (x ∷ only_where p xs) (only_where p xs))
      at rest true = ap (λ (ys : List A). f x ∷ ys) rest
      at rest false = rest

  abbrev nothing : X → List A
  nothing x = []

  none : (xs : List X) → flat_map nothing xs ≡ []
  none [] = refl
  none (x ∷ xs) = none xs

-- row by row, or column by column

module _ {X Y A : Type 0} (c : X → Y → List A) where
  pub turned : (xs : List X) (ys : List Y) → IsPermutation (flat_map (λ x. flat_map (c x) ys) xs) (flat_map (λ y. flat_map (λ x. c x y) xs) ys)
  turned [] ys = subst (IsPermutation []) (sym (none ys)) (IsPermutation-refl [])
  turned (x ∷ xs) ys =
      let rest = turned xs ys in
      let first = flat_map (c x) ys in
      let columns = flat_map (λ y. flat_map (λ z. c z y) xs) ys in
      IsPermutation-trans (first ++ flat_map (λ z. flat_map (c z) ys) xs) (first ++ columns) (flat_map (λ y. c x y ++ flat_map (λ z. c z y) xs) ys)
      (IsPermutation-append_right first (flat_map (λ z. flat_map (c z) ys) xs) columns rest)
      (IsPermutation-sym (flat_map (λ y. c x y ++ flat_map (λ z. c z y) xs) ys) (first ++ columns) (apart (c x) (λ y. flat_map (λ z. c z y) xs) ys))

-- the rows that match, by the rows of the other side

module _ (test : Test) where
  abbrev cell : ℕ → ℕ → List RowPair
  cell i j = cond (test i j) (both i j ∷ []) []

  by_left : (i k : ℕ) → map (both i) (passing (test i) k) ≡ flat_map (cell i) (range_with_len 0 k)
  by_left i k = sym (alone (test i) (both i) (range_with_len 0 k))

  by_right : (h j : ℕ) → map (λ i. both i j) (passing (λ i. test i j) h) ≡ flat_map (λ i. cell i j) (range_with_len 0 h)
  by_right h j = sym (alone (λ i. test i j) (λ i. both i j) (range_with_len 0 h))

  pub matched-turned : (h k : ℕ) → IsPermutation (flat_map (λ j. map (λ i. both i j) (passing (λ i. test i j) h)) (range_with_len 0 k)) (matched test h k)
  matched-turned h k =
      subst (λ (l : List RowPair). IsPermutation l (matched test h k)) (sym (flat-below (λ j. map (λ i. both i j) (passing (λ i. test i j) h)) (λ j. flat_map (λ i. cell i j) (range_with_len 0 h)) k (λ j below. by_right h j)))
      (subst (IsPermutation (flat_map (λ j. flat_map (λ i. cell i j) (range_with_len 0 h)) (range_with_len 0 k))) (sym (flat-below (λ i. map (both i) (passing (test i) k)) (λ i. flat_map (cell i) (range_with_len 0 k)) h (λ i below. by_left i k)))
      (turned (λ j i. cell i j) (range_with_len 0 k) (range_with_len 0 h)))

-- what is given of rows that are matched by a test

-- of the side gone through, and of the other
abbrev rows_by : (by_right : Bool) → JoinType → Test → (n o : ℕ) → List RowPair
rows_by b how test n o = flat_map (λ i. row_given b how i (passing (test i) o)) (range_with_len 0 n)

abbrev others_by : (by_right : Bool) → JoinType → Test → (n o : ℕ) → List RowPair
others_by b how test n o = map (λ j. as_pair b None (Some j)) (passing (λ j. gives_alone (not b) how (is_right_matched test n j)) o)

abbrev pub given_by : (by_right : Bool) → JoinType → Test → (n o : ℕ) → List RowPair
given_by b how test n o = rows_by b how test n o ++ others_by b how test n o

met-matched : (test : Test) (n o j : ℕ) (m : Matches) → AreMatches test n o m → j < o → is_met m (length m.numbers) j ≡ is_right_matched test n j
met-matched test n o j m are below =
    ap (λ (k : ℕ). is_met m k j) are.rows
    ∙ any-below (λ i. list_any (nat_eq j) (matches_of m i)) (λ i. test i j) n (λ i lt. ap (list_any (nat_eq j)) (are.each i lt) ∙ among (test i) o j below)

pub given-matched : (b : Bool) (how : JoinType) (test : Test) (n o : ℕ) (m : Matches) → AreMatches test n o m → all_given b how m ≡ given_by b how test n o
given-matched b how test n o m are =
    ap₂ (λ (xs ys : List RowPair). xs ++ ys)
    (ap (λ (k : ℕ). flat_map (λ i. row_given b how i (matches_of m i)) (range_with_len 0 k)) are.rows
    ∙ flat-below (λ i. row_given b how i (matches_of m i)) (λ i. row_given b how i (passing (test i) o)) n (λ i lt. ap (row_given b how i) (are.each i lt)))
    (ap (λ (k : ℕ). map (λ j. as_pair b None (Some j)) (passing (λ j. gives_alone (not b) how (is_met m (length m.numbers) j)) k)) are.others
    ∙ ap (map (λ j. as_pair b None (Some j))) (passing-below (λ j. gives_alone (not b) how (is_met m (length m.numbers) j)) (λ j. gives_alone (not b) how (is_right_matched test n j)) o (λ j lt. ap (gives_alone (not b) how) (met-matched test n o j m are lt))))

-- pairs where a join gives them
where_given : (g : Bool) (f : ℕ → List RowPair) (xs : List ℕ) → flat_map (λ i. cond g (f i) []) xs ≡ cond g (flat_map f xs) []
where_given true f xs = refl
where_given false f xs = none xs

-- what is given in three parts: pairs, rows of the side gone through alone, and rows of the other
abbrev parts : (by_right : Bool) → JoinType → Test → (n o : ℕ) → List RowPair
parts b how test n o =
    (cond (gives_pairs how) (flat_map (λ i. pairs_with b i (passing (test i) o)) (range_with_len 0 n)) [] ++ map (λ i. as_pair b (Some i) None) (passing (λ i. gives_alone b how (is_left_matched test o i)) n))
    ++ others_by b how test n o

in_parts : (b : Bool) (how : JoinType) (test : Test) (n o : ℕ) → IsPermutation (given_by b how test n o) (parts b how test n o)
in_parts b how test n o =
    let xs = range_with_len 0 n in
    let f = λ (i : ℕ). cond (gives_pairs how) (pairs_with b i (passing (test i) o)) [] in
    let g = λ (i : ℕ). cond (gives_alone b how (is_any (passing (test i) o))) (as_pair b (Some i) None ∷ []) [] in
    let pairs = where_given (gives_pairs how) (λ i. pairs_with b i (passing (test i) o)) xs in
    let rows = alone (λ i. gives_alone b how (is_any (passing (test i) o))) (λ i. as_pair b (Some i) None) xs
    ∙ ap (map (λ i. as_pair b (Some i) None)) (passing-below (λ i. gives_alone b how (is_any (passing (test i) o))) (λ i. gives_alone b how (is_left_matched test o i)) n (λ i lt. ap (gives_alone b how) (any-passing (test i) (range_with_len 0 o)))) in
    IsPermutation-append_left (others_by b how test n o) (rows_by b how test n o) (cond (gives_pairs how) (flat_map (λ i. pairs_with b i (passing (test i) o)) xs) [] ++ map (λ i. as_pair b (Some i) None) (passing (λ i. gives_alone b how (is_left_matched test o i)) n))
    (subst (IsPermutation (flat_map (λ i. f i ++ g i) xs)) (ap₂ (λ (ps qs : List RowPair). ps ++ qs) pairs rows) (apart f g xs))

-- through the left rows

pub left-given : (how : JoinType) (test : Test) (h k : ℕ) → IsPermutation (join_pairs how test h k) (given_by false how test h k)
left-given how test h k = IsPermutation-sym (given_by false how test h k) (join_pairs how test h k) (in_parts false how test h k)

-- through the right rows

module _ (how : JoinType) (test : Test) (h k : ℕ) where
  abbrev turns : List RowPair
  turns = flat_map (λ j. map (λ i. both i j) (passing (λ i. test i j) h)) (range_with_len 0 k)

  abbrev rights : List RowPair
  rights = map right_alone (passing (λ j. gives_alone true how (is_right_matched test h j)) k)

  abbrev lefts : List RowPair
  lefts = map left_alone (passing (λ i. gives_alone false how (is_left_matched test k i)) h)

  where_matched : (g : Bool) → IsPermutation (cond g turns []) (cond g (matched test h k) [])
  where_matched true = matched-turned test h k
  where_matched false = IsPermutation-refl []

  moved : (g : Bool) → IsPermutation ((cond g turns [] ++ rights) ++ lefts) ((cond g (matched test h k) [] ++ lefts) ++ rights)
  moved g = subst (λ (l : List RowPair). IsPermutation l ((cond g (matched test h k) [] ++ lefts) ++ rights)) (sym (append_assoc (cond g turns []) rights lefts))
      (subst (IsPermutation (cond g turns [] ++ (rights ++ lefts))) (sym (append_assoc (cond g (matched test h k) []) lefts rights))
      (IsPermutation-append (cond g turns []) (cond g (matched test h k) []) (rights ++ lefts) (lefts ++ rights) (where_matched g) (IsPermutation-append_comm rights lefts)))

  pub right-given : IsPermutation (join_pairs how test h k) (given_by true how (flipped test) k h)
  right-given = IsPermutation-sym (given_by true how (flipped test) k h) (join_pairs how test h k)
      (IsPermutation-trans (given_by true how (flipped test) k h) ((cond (gives_pairs how) turns [] ++ rights) ++ lefts) (join_pairs how test h k) (in_parts true how (flipped test) k h) (moved (gives_pairs how)))
