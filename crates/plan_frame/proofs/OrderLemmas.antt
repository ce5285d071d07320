-- Rows in the order of keys: the order is total, and there are rows in it.
use Rattle.std.proofs.Common.{◌≡◌, ℕ, ℤ, zero, suc, ◌+◌, ◌<◌, ◌≤◌, Bool, true, false, cond, List, [], ◌∷◌, length, Option, Some, None, refl, sym, ap, ◌∙◌, subst, arith}
use Rattle.std.specs.Cmp.{IsTotalOrder, bool_cmp_total}
use Rattle.std.specs.Cmp.Lexicographic.{slice_cmp}
use Rattle.std.specs.List.{AllByRecursion, range_with_len, slice_index_or}
use Rattle.std.specs.List.Sorted.{IsPermutation, IsSorted}
use Rattle.std.specs.Ordering.{bool_cmp, int_cmp, is_lt, nat_cmp, ordering_reverse, ordering_then}
use Rattle.std.specs.declared.cmp.Ordering.{Ordering}
use Rattle.std.specs.declared.cmp.Ordering.TheVariants.{Less, Equal, Greater}
use Rattle.std.proofs.lemmas.Cmp.{int_cmp_total, nat_cmp_total, nat_list_cmp_total, then_total}
use Rattle.std.proofs.lemmas.List.Sorted.{IsPermutation-cons, IsPermutation-middle, IsPermutation-refl, IsPermutation-trans}
use Rattle.plan_core.specs.declared.data_type.DataType.{DataType}
use Rattle.plan_core.specs.declared.data_type.DataType.TheVariants as types
use Rattle.plan_expr.specs.Types.{is_plain}
use Rattle.plan_frame.specs.Values.{Value, null, whole, text, truth, IsOf}
use Rattle.plan_frame.specs.Meaning.{Cell, one, many, CellHas, value_at}
use Rattle.plan_frame.specs.Orders.{AreSorted, first_mark, key_cmp, rest_marks, rows_cmp}
use Rattle.plan_frame.proofs.FrameLemmas.{row_of}

-- an order with an element more, which comes first, or last; or the other way round but for that
module _ {K : Type 0} (R : K → K → Ordering) (o : IsTotalOrder R) where
  abbrev turned : Bool → K → K → Ordering
  turned d x y = cond d (ordering_reverse (R x y)) (R x y)

  equal_back : (x y : K) → ordering_reverse (R x y) ≡ Equal → R x y ≡ Equal
  equal_back x y e = o.antisymm x y ∙ ap ordering_reverse (o.antisymm y x ∙ e)

  turned_total : (d : Bool) → IsTotalOrder (turned d)
  turned_total false = o
  turned_total true = record {
    antisymm = λ x y. ap ordering_reverse (o.antisymm x y);
    trans = λ x y z e f. sym (o.antisymm z x) ∙ o.trans z y x (o.antisymm z y ∙ f) (o.antisymm y x ∙ e);
    congr = λ x y z e. ap ordering_reverse (o.congr x y z (equal_back x y e));
  }

  abbrev beside : Bool → Bool → Option K → Option K → Ordering
  beside d n None None = Equal
  beside d n None (Some y) = cond n Greater Less
  beside d n (Some x) None = cond n Less Greater
  beside d n (Some x) (Some y) = turned d x y

  antisymm : (d n : Bool) (x y : Option K) → beside d n x y ≡ ordering_reverse (beside d n y x)
  antisymm d n None None = refl
  antisymm d true None (Some y) = refl
  antisymm d false None (Some y) = refl
  antisymm d true (Some x) None = refl
  antisymm d false (Some x) None = refl
  antisymm d n (Some x) (Some y) = (turned_total d).antisymm x y

  trans : (d n : Bool) (x y z : Option K) → beside d n x y ≡ Less → beside d n y z ≡ Less → beside d n x z ≡ Less
  trans d n None None z e f = cc
  trans d true None (Some y) z e f = cc
  trans d false None (Some y) None e f = cc
  trans d false None (Some y) (Some z) e f = refl
  trans d n (Some x) None None e f = cc
  trans d true (Some x) None (Some z) e f = cc
  trans d false (Some x) None (Some z) e f = cc
  trans d true (Some x) (Some y) None e f = refl
  trans d false (Some x) (Some y) None e f = cc
  trans d n (Some x) (Some y) (Some z) e f = (turned_total d).trans x y z e f

  congr : (d n : Bool) (x y z : Option K) → beside d n x y ≡ Equal → beside d n x z ≡ beside d n y z
  congr d n None None z e = refl
  congr d true None (Some y) z e = cc
  congr d false None (Some y) z e = cc
  congr d true (Some x) None z e = cc
  congr d false (Some x) None z e = cc
  congr d n (Some x) (Some y) None e = refl
  congr d n (Some x) (Some y) (Some z) e = (turned_total d).congr x y z e

  beside_total : (d n : Bool) → IsTotalOrder (beside d n)
  beside_total d n = record { antisymm = antisymm d n; trans = trans d n; congr = congr d n }

-- a comparison by what elements have, where that is ordered
total_by : {K J : Type 0} (Q : K → K → Ordering) (f : K → J) (R : J → J → Ordering) → IsTotalOrder R → ((x y : K) → Q x y ≡ R (f x) (f y)) → IsTotalOrder Q
total_by Q f R o is = record {
  antisymm = λ x y. is x y ∙ o.antisymm (f x) (f y) ∙ ap ordering_reverse (sym (is y x));
  trans = λ x y z e g. is x z ∙ o.trans (f x) (f y) (f z) (sym (is x y) ∙ e) (sym (is y z) ∙ g);
  congr = λ x y z e. is x z ∙ o.congr (f x) (f y) (f z) (sym (is x y) ∙ e) ∙ sym (is y z);
}

abbrev number_of : Value → Option ℤ
number_of (whole n) = Some n
number_of v = None

abbrev text_of : Value → Option (List ℕ)
text_of (text s) = Some s
text_of v = None

abbrev truth_of : Value → Option Bool
truth_of (truth b) = Some b
truth_of v = None

by_number : (d n : Bool) (x y : Value) → IsOf types.Int64 x → IsOf types.Int64 y → key_cmp d n x y ≡ beside int_cmp int_cmp_total d n (number_of x) (number_of y)
by_number d n null null h k = refl
by_number d n null (whole b) h k = refl
by_number d n (whole a) null h k = refl
by_number d n (whole a) (whole b) h k = refl
by_number d n x y h k = absurd (first_of (search k, search h))

by_text : (d n : Bool) (x y : Value) → IsOf types.String x → IsOf types.String y → key_cmp d n x y ≡ beside (slice_cmp nat_cmp) nat_list_cmp_total d n (text_of x) (text_of y)
by_text d n null null h k = refl
by_text d n null (text b) h k = refl
by_text d n (text a) null h k = refl
by_text d n (text a) (text b) h k = refl
by_text d n x y h k = absurd (first_of (search k, search h))

by_truth : (d n : Bool) (x y : Value) → IsOf types.Boolean x → IsOf types.Boolean y → key_cmp d n x y ≡ beside bool_cmp bool_cmp_total d n (truth_of x) (truth_of y)
by_truth d n null null h k = refl
by_truth d n null (truth b) h k = refl
by_truth d n (truth a) null h k = refl
by_truth d n (truth a) (truth b) h k = refl
by_truth d n x y h k = absurd (first_of (search k, search h))

-- the values of a plain type stand in an order
key_total : (d n : Bool) (t : DataType) (v : ℕ → Value) → is_plain t ≡ true → ((i : ℕ) → IsOf t (v i)) → IsTotalOrder (λ i j. key_cmp d n (v i) (v j))
key_total d n types.Int64 v p h = total_by (λ i j. key_cmp d n (v i) (v j)) (λ i. number_of (v i)) (beside int_cmp int_cmp_total d n) (beside_total int_cmp int_cmp_total d n) (λ i j. by_number d n (v i) (v j) (h i) (h j))
key_total d n types.String v p h = total_by (λ i j. key_cmp d n (v i) (v j)) (λ i. text_of (v i)) (beside (slice_cmp nat_cmp) nat_list_cmp_total d n) (beside_total (slice_cmp nat_cmp) nat_list_cmp_total d n) (λ i j. by_text d n (v i) (v j) (h i) (h j))
key_total d n types.Boolean v p h = total_by (λ i j. key_cmp d n (v i) (v j)) (λ i. truth_of (v i)) (beside bool_cmp bool_cmp_total d n) (beside_total bool_cmp bool_cmp_total d n) (λ i j. by_truth d n (v i) (v j) (h i) (h j))
key_total d n (types.List t) v p h = cc

-- a cell of a plain type
abbrev pub IsKey : ℕ → Cell → Type 0
IsKey h c = (t : DataType) × (is_plain t ≡ true) × CellHas t h c

value_of : (t : DataType) (h : ℕ) (c : Cell) (i : ℕ) → CellHas t h c → IsOf t (value_at c i)
value_of t h (one v) i k = k
value_of t h (many vs) i k = row_of t vs i k.1

none_total : IsTotalOrder (λ (i j : ℕ). Equal)
none_total = record { antisymm = λ i j. refl; trans = λ i j k e f. e; congr = λ i j k e. refl }

-- rows stand in an order by keys of plain types
pub rows_total : (h : ℕ) (cs : List Cell) (ds ns : List Bool) → AllByRecursion (IsKey h) cs → IsTotalOrder (rows_cmp cs ds ns)
rows_total h [] ds ns k = none_total
rows_total h (c ∷ cs) ds ns k =
    then_total
    (key_total (first_mark ds) (first_mark ns) k.0.0 (value_at c) k.0.1 (λ i. value_of k.0.0 h c i k.0.2))
    (rows_total h cs (rest_marks ds) (rest_marks ns) k.1)

-- and by their places where they stand equal
pub ties_total : (cmp : ℕ → ℕ → Ordering) → IsTotalOrder cmp → IsTotalOrder (λ i j. ordering_then (cmp i j) (nat_cmp i j))
ties_total cmp o = then_total o nat_cmp_total

-- what stands in an order with ties by place stands in the order
less_then : (a b : Ordering) → is_lt (ordering_then a b) ≡ false → is_lt a ≡ false
less_then Less b e = e
less_then Equal b e = refl
less_then Greater b e = refl

pub sorted_ties : (cmp : ℕ → ℕ → Ordering) (rows : List ℕ) → IsSorted (λ i j. ordering_then (cmp i j) (nat_cmp i j)) rows → IsSorted cmp rows
sorted_ties cmp rows h = λ k d low high. less_then (cmp (slice_index_or rows (k + 1) d) (slice_index_or rows k d)) (nat_cmp (slice_index_or rows (k + 1) d) (slice_index_or rows k d)) (h k d low high)

-- rows in the order, where there is one

module _ (cmp : ℕ → ℕ → Ordering) (o : IsTotalOrder cmp) where
  abbrev pub inserted : ℕ → List ℕ → List ℕ
  inserted x [] = x ∷ []
  inserted x (y ∷ ys) = cond (is_lt (cmp y x)) (y ∷ inserted x ys) (x ∷ y ∷ ys)

  abbrev pub in_order : List ℕ → List ℕ
  in_order [] = []
  in_order (x ∷ xs) = inserted x (in_order xs)

  abbrev pub Ascends : List ℕ → Type 0
  Ascends [] = Unit {0}
  Ascends (x ∷ []) = Unit {0}
  Ascends (x ∷ y ∷ ys) = (is_lt (cmp y x) ≡ false) × Ascends (y ∷ ys)

  one_way : (x y : ℕ) → is_lt (cmp y x) ≡ true → is_lt (cmp x y) ≡ false
  one_way x y e = ap is_lt (o.antisymm x y) ∙ back (cmp y x) e
    where
      back : (a : Ordering) → is_lt a ≡ true → is_lt (ordering_reverse a) ≡ false
      back Less e = refl
      back Equal e = refl
      back Greater e = cc

  inserted_ascends : (x : ℕ) (ys : List ℕ) → Ascends ys → Ascends (inserted x ys)
  inserted_ascends x [] h = tt
  inserted_ascends x (y ∷ ys) h = at (λ a. inserted_ascends x ys a) (is_lt (cmp y x)) refl
    where
      below : (zs : List ℕ) → Ascends (y ∷ zs) → is_lt (cmp y x) ≡ true → Ascends (inserted x zs) → Ascends (y ∷ inserted x zs)
      below [] a e r = (one_way x y e, tt)
      below (z ∷ zs) a e r = deeper (is_lt (cmp z x)) refl
        where
          deeper : (b : Bool) → is_lt (cmp z x) ≡ b → Ascends (y ∷ cond b (z ∷ inserted x zs) (x ∷ z ∷ zs))
          deeper true q = (a.0, subst (λ (c : Bool). Ascends (cond c (z ∷ inserted x zs) (x ∷ z ∷ zs))) q r)
          deeper false q = (one_way x y e, subst (λ (c : Bool). Ascends (cond c (z ∷ inserted x zs) (x ∷ z ∷ zs))) q r)

      rest : (zs : List ℕ) → Ascends (y ∷ zs) → Ascends zs
      rest [] a = tt
      rest (z ∷ zs) a = a.1

      at : (Ascends ys → Ascends (inserted x ys)) → (b : Bool) → is_lt (cmp y x) ≡ b → Ascends (cond b (y ∷ inserted x ys) (x ∷ y ∷ ys))
      at by true e = below ys h e (by (rest ys h))
      at by false e = (e, h)

  pub in_order_ascends : (xs : List ℕ) → Ascends (in_order xs)
  in_order_ascends [] = tt
  in_order_ascends (x ∷ xs) = inserted_ascends x (in_order xs) (in_order_ascends xs)

  inserted_permutes : (x : ℕ) (ys : List ℕ) → IsPermutation (x ∷ ys) (inserted x ys)
  inserted_permutes x [] = IsPermutation-refl (x ∷ [])
  inserted_permutes x (y ∷ ys) = at (inserted_permutes x ys) (is_lt (cmp y x))
    where
      at : IsPermutation (x ∷ ys) (inserted x ys) → (b : Bool) → IsPermutation (x ∷ y ∷ ys) (cond b (y ∷ inserted x ys) (x ∷ y ∷ ys))
      at by true = IsPermutation-trans (x ∷ y ∷ ys) (y ∷ x ∷ ys) (y ∷ inserted x ys) (IsPermutation-middle (x ∷ []) y ys) (IsPermutation-cons y (x ∷ ys) (inserted x ys) by)
      at by false = IsPermutation-refl (x ∷ y ∷ ys)

  pub in_order_permutes : (xs : List ℕ) → IsPermutation xs (in_order xs)
  in_order_permutes [] = IsPermutation-refl []
  in_order_permutes (x ∷ xs) = IsPermutation-trans (x ∷ xs) (x ∷ in_order xs) (inserted x (in_order xs)) (IsPermutation-cons x xs (in_order xs) (in_order_permutes xs)) (inserted_permutes x (in_order xs))

  pub ascends_sorted : (xs : List ℕ) → Ascends xs → IsSorted cmp xs
  ascends_sorted [] h = λ k d low high. absurd (omega (arith, high))
  ascends_sorted (x ∷ []) h = λ k d low high. absurd (omega (arith, high))
  ascends_sorted (x ∷ y ∷ ys) h = go (ascends_sorted (y ∷ ys) h.1)
    where
      go : IsSorted cmp (y ∷ ys) → (k d : ℕ) → 0 ≤ k → k + 1 < length (x ∷ y ∷ ys) → is_lt (cmp (slice_index_or (x ∷ y ∷ ys) (k + 1) d) (slice_index_or (x ∷ y ∷ ys) k d)) ≡ false
      go rest zero d low high = h.0
      go rest (suc k) d low high =
          let e : suc k + 1 ≡ suc (k + 1) = omega arith in
          ap (λ (m : ℕ). is_lt (cmp (slice_index_or (x ∷ y ∷ ys) m d) (slice_index_or (x ∷ y ∷ ys) (suc k) d))) e ∙ rest k d (omega arith) (omega (arith, high))

-- there are rows in an order, with ties by their places
pub sorted_exists : (stable : Bool) (cmp : ℕ → ℕ → Ordering) (h : ℕ) → IsTotalOrder cmp → (rows : List ℕ) × AreSorted stable cmp h rows
sorted_exists stable cmp h o =
    let ties = λ (i j : ℕ). ordering_then (cmp i j) (nat_cmp i j) in
    let both = ties_total cmp o in
    let rows = in_order ties both (range_with_len 0 h) in
    let sorted = ascends_sorted ties both rows (in_order_ascends ties both (range_with_len 0 h)) in
    (rows, record { permutes = in_order_permutes ties both (range_with_len 0 h); sorted = sorted_ties cmp rows sorted; ties = λ e. sorted })
