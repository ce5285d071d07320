-- Keys of rows, and the numbers that they get in the order in which they come.
use Rattle.std.proofs.Common.{◌≡◌, ◌⊎◌, inl, inr, subst, ◌++◌, ◌+◌, ◌<◌, ◌≤◌, ◌&&◌, ◌||◌, length, get_or, ℕ, zero, suc, Bool, true, false, cond, List, [], ◌∷◌, refl, ap, ap₂, sym, ◌∙◌, arith, length-append, below_more, set, eqb-true, eq-eqb, true≢false, ◌≢◌, append-nil, get_or-set_same, get_or-set_other}
use Rattle.std.specs.Prelude.{nat_eq, not}
use Rattle.std.proofs.Math.Dec.{eqb-suc-suc, eqb-suc-zero, eqb-zero-suc}
use Rattle.std.specs.Cmp.{IsEquivalence}
use Rattle.std.specs.List.{list_any, position_or_len}
use Rattle.std.specs.Cmp.Lexicographic.{pointwise, lists_equiv}
use Rattle.std.proofs.lemmas.Bool.{cases_lt}
use Rattle.std.proofs.lemmas.List.{get_or_append_left, get_or_push}
use Rattle.indexmap.specs.IndexSet.{insert_key}
use Rattle.plan_table.specs.declared.value.AnyValue.{AnyValue}
use Rattle.plan_table.specs.declared.value.AnyValue.TheVariants.{Null}
use Rattle.plan_table.specs.contracts.value.AnyValuePartialEq.TheImpl.{ghosts}
use Rattle.plan_table.specs.contracts.value.AnyValueEq.TheImpl.Laws.{laws-law}
use Rattle.plan_value.proofs.PlaceLemmas.{places-next}
use Rattle.plan_frame.specs.Values.{same_value}
use Rattle.plan_frame.specs.Frames.{row}
use Rattle.plan_frame.specs.Meaning.{are_alike, places_from, value_at}
use Rattle.plan_value.specs.declared.exprs.Values.{Values}
use Rattle.plan_value.specs.declared.exprs.Values.TheVariants.{One, Many}
use Rattle.plan_value.specs.Shown.{value_of, values_of}
use Rattle.plan_value.specs.Cells.{cell_of, cells_of}
use Rattle.plan_value.specs.Groups.{key_at, own_at}
use Rattle.plan_value.proofs.SameLemmas.{values_same}

module _ {T : Type 0} (eq : T → T → Bool) where
  -- the number of a key among the distinct keys so far
  abbrev pub place : List T → T → ℕ
  place ks k = position_or_len (eq k) ks

  -- rows have the numbers of their keys among the distinct keys so far
  pub record HavePlaces (key : ℕ → T) (ks : List T) (numbers : List ℕ) (r : ℕ) : Type 0 where
    pub rows : length numbers ≡ r
    pub is : (i : ℕ) → i < r → get_or numbers i 0 ≡ place ks (key i)
    pub within : (i : ℕ) → i < r → place ks (key i) < length ks
    pub first : (i : ℕ) → i < r → (g : ℕ) → g < place ks (key i) → (j : ℕ) × (j < i) × (place ks (key j) ≡ g)
    pub all : (g : ℕ) → g < length ks → (j : ℕ) × (j < r) × (place ks (key j) ≡ g)

split : (g n : ℕ) → g < n + 1 → (g < n) ⊎ (g ≡ n)
split g n lt = elim (cases_lt g n) as (λ _. (g < n) ⊎ (g ≡ n)) [ inl low ↦ inl low | inr high ↦ inr (omega (arith, lt, high)) ]

one_more : (n : ℕ) → 1 + n ≡ suc n
one_more n = omega arith

module _ {T : Type 0} (eq : T → T → Bool) (laws : IsEquivalence eq) where
  -- two keys that are there have the same number just where they are the same
  pub place-same : (ks : List T) (x y : T) → place eq ks x < length ks → place eq ks y < length ks → nat_eq (place eq ks x) (place eq ks y) ≡ eq x y
  place-same [] x y lx ly = absurd (omega (arith, lx))
  place-same (k ∷ ks) x y lx ly = by (eq x k) (eq y k) refl refl lx ly (place-same ks x y)
    where
      first : (b : Bool) → eq x k ≡ true → eq y k ≡ b → b ≡ eq x y
      first b ex ey = sym ey ∙ laws.symm y k ∙ sym (laws.congr x k y ex)

      by : (a b : Bool) → eq x k ≡ a → eq y k ≡ b → cond (not a) (1 + place eq ks x) 0 < suc (length ks) → cond (not b) (1 + place eq ks y) 0 < suc (length ks)
          → (place eq ks x < length ks → place eq ks y < length ks → nat_eq (place eq ks x) (place eq ks y) ≡ eq x y)
          → nat_eq (cond (not a) (1 + place eq ks x) 0) (cond (not b) (1 + place eq ks y) 0) ≡ eq x y
      by true true ex ey lx ly rest = first true ex ey
      by true false ex ey lx ly rest = ap (nat_eq 0) (one_more (place eq ks y)) ∙ eqb-zero-suc (place eq ks y) ∙ first false ex ey
      by false true ex ey lx ly rest = ap (λ (n : ℕ). nat_eq n 0) (one_more (place eq ks x)) ∙ eqb-suc-zero (place eq ks x) ∙ sym ex ∙ laws.symm x k ∙ sym (laws.congr y k x ey) ∙ laws.symm y x
      by false false ex ey lx ly rest = ap₂ nat_eq (one_more (place eq ks x)) (one_more (place eq ks y)) ∙ eqb-suc-suc (place eq ks x) (place eq ks y) ∙ rest (omega (arith, lx)) (omega (arith, ly))

  -- a key that is there keeps its number where another one comes
  pub place-stays : (ks : List T) (k x : T) → place eq ks x < length ks → place eq (ks ++ k ∷ []) x ≡ place eq ks x
  place-stays [] k x lt = absurd (omega (arith, lt))
  place-stays (h ∷ ks) k x lt = by (eq x h) lt (place-stays ks k x)
    where
      by : (b : Bool) → cond (not b) (1 + place eq ks x) 0 < suc (length ks) → (place eq ks x < length ks → place eq (ks ++ k ∷ []) x ≡ place eq ks x) → cond (not b) (1 + place eq (ks ++ k ∷ []) x) 0 ≡ cond (not b) (1 + place eq ks x) 0
      by true lt rest = refl
      by false lt rest = ap (λ (n : ℕ). 1 + n) (rest (omega (arith, lt)))

  -- a key that comes gets the number that it has then
  pub place-new : (ks : List T) (k : T) → place eq (ks ++ k ∷ []) k ≡ place eq ks k
  place-new [] k = ap (λ (b : Bool). cond (not b) 1 0) (laws.refl k)
  place-new (h ∷ ks) k = ap (λ (n : ℕ). cond (not (eq k h)) (1 + n) 0) (place-new ks k)

  stays : (ks : List T) (k x : T) → place eq ks x < length ks → place eq (insert_key eq ks k) x ≡ place eq ks x
  stays ks k x lt = by (list_any (eq k) ks)
    where
      by : (b : Bool) → place eq (cond b ks (ks ++ k ∷ [])) x ≡ place eq ks x
      by true = refl
      by false = place-stays ks k x lt

  new : (ks : List T) (k : T) → place eq (insert_key eq ks k) k ≡ place eq ks k
  new ks k = by (list_any (eq k) ks)
    where
      by : (b : Bool) → place eq (cond b ks (ks ++ k ∷ [])) k ≡ place eq ks k
      by true = refl
      by false = place-new ks k

  grows : (ks : List T) (k : T) → length ks ≤ length (insert_key eq ks k)
  grows ks k = by (list_any (eq k) ks)
    where
      by : (b : Bool) → length ks ≤ length (cond b ks (ks ++ k ∷ []))
      by true = omega arith
      by false = omega (arith, length-append ks (k ∷ []))

  place-le : (ks : List T) (k : T) → place eq ks k ≤ length ks
  place-le [] k = omega arith
  place-le (h ∷ ks) k = by (eq k h) (place-le ks k)
    where
      by : (b : Bool) → place eq ks k ≤ length ks → cond (not b) (1 + place eq ks k) 0 ≤ suc (length ks)
      by true le = omega arith
      by false le = omega (arith, le)

  -- a key that isn't there has the number after all
  place-absent : (ks : List T) (k : T) → list_any (eq k) ks ≡ false → place eq ks k ≡ length ks
  place-absent [] k e = refl
  place-absent (h ∷ ks) k e = by (eq k h) refl e (place-absent ks k)
    where
      by : (b : Bool) → eq k h ≡ b → (b || list_any (eq k) ks) ≡ false → (list_any (eq k) ks ≡ false → place eq ks k ≡ length ks) → cond (not b) (1 + place eq ks k) 0 ≡ suc (length ks)
      by true same e rest = cc
      by false other e rest = let n = rest e in omega (arith, n)

  -- each number so far is that of a row so far, with one key more too
  all-grow : (key : ℕ → T) (ks : List T) (r : ℕ) → ((i : ℕ) → i < r → place eq ks (key i) < length ks) → ((g : ℕ) → g < length ks → (j : ℕ) × (j < r) × (place eq ks (key j) ≡ g)) → (g : ℕ) → g < length (insert_key eq ks (key r)) → (j : ℕ) × (j < r + 1) × (place eq (insert_key eq ks (key r)) (key j) ≡ g)
  all-grow key ks r within all g lt = by (list_any (eq (key r)) ks) refl lt
    where
      old : g < length ks → (j : ℕ) × (j < r + 1) × (place eq (insert_key eq ks (key r)) (key j) ≡ g)
      old small = let x = all g small in (x.0, omega (arith, x.1), stays ks (key r) (key x.0) (within x.0 x.1) ∙ x.2)

      by : (b : Bool) → list_any (eq (key r)) ks ≡ b → g < length (cond b ks (ks ++ key r ∷ [])) → (j : ℕ) × (j < r + 1) × (place eq (insert_key eq ks (key r)) (key j) ≡ g)
      by true e lt = old lt
      by false e lt = elim (split g (length ks) (omega (arith, lt, length-append ks (key r ∷ [])))) as (λ _. (j : ℕ) × (j < r + 1) × (place eq (insert_key eq ks (key r)) (key j) ≡ g)) [
        | inl small ↦ old small
        | inr is ↦ (r, omega arith, new ks (key r) ∙ place-absent ks (key r) e ∙ sym is)
      ]

  -- and so do they with the key of the next row
  pub places-grow : (key : ℕ → T) (ks more : List T) (numbers : List ℕ) (r n : ℕ) → HavePlaces eq key ks numbers r → more ≡ insert_key eq ks (key r) → n ≡ place eq ks (key r) → n < length more → HavePlaces eq key more (numbers ++ n ∷ []) (r + 1)
  places-grow key ks more numbers r n h e is lt = record {
    rows = omega (arith, length-append numbers (n ∷ []), h.rows);
    is = below_more _ _ (λ i lt. get_or_append_left numbers (n ∷ []) 0 i (omega (arith, h.rows, lt)) ∙ h.is i lt ∙ sym (ap (λ (l : List T). place eq l (key i)) e ∙ stays ks (key r) (key i) (h.within i lt)))
        (get_or_push numbers n 0 r h.rows ∙ is ∙ sym (ap (λ (l : List T). place eq l (key r)) e ∙ new ks (key r)));
    within = below_more _ _ (λ i lt.
        let a : place eq more (key i) ≡ place eq ks (key i) = ap (λ (l : List T). place eq l (key i)) e ∙ stays ks (key r) (key i) (h.within i lt) in
        let b : length more ≡ length (insert_key eq ks (key r)) = ap (length {A = T}) e in
        omega (arith, a, b, h.within i lt, grows ks (key r)))
        (let a : place eq more (key r) ≡ n = ap (λ (l : List T). place eq l (key r)) e ∙ new ks (key r) ∙ sym is in omega (arith, a, lt));
    first = below_more _ _ (λ i lt g low.
        let here : place eq more (key i) ≡ place eq ks (key i) = ap (λ (l : List T). place eq l (key i)) e ∙ stays ks (key r) (key i) (h.within i lt) in
        let x = h.first i lt g (omega (arith, low, here)) in
        (x.0, x.1, ap (λ (l : List T). place eq l (key x.0)) e ∙ stays ks (key r) (key x.0) (h.within x.0 (omega (arith, x.1, lt))) ∙ x.2))
        (λ g low.
        let here : place eq more (key r) ≡ place eq ks (key r) = ap (λ (l : List T). place eq l (key r)) e ∙ new ks (key r) in
        let x = h.all g (omega (arith, low, here, place-le ks (key r))) in
        (x.0, x.1, ap (λ (l : List T). place eq l (key x.0)) e ∙ stays ks (key r) (key x.0) (h.within x.0 x.1) ∙ x.2));
    all = λ g low.
        let x = all-grow key ks r h.within h.all g (subst (λ (l : List T). g < length l) e low) in
        (x.0, x.1, ap (λ (l : List T). place eq l (key x.0)) e ∙ x.2);
  }

  -- two rows have the same number just where their keys are the same
  pub numbers-same : (key : ℕ → T) (ks : List T) (numbers : List ℕ) (r i j : ℕ) → HavePlaces eq key ks numbers r → i < r → j < r → nat_eq (get_or numbers i 0) (get_or numbers j 0) ≡ eq (key i) (key j)
  numbers-same key ks numbers r i j h li lj = ap₂ nat_eq (h.is i li) (h.is j lj) ∙ place-same ks (key i) (key j) (h.within i li) (h.within j lj)

-- keys are the same as themselves, either way, and alike to the same keys
pub keys_equiv : IsEquivalence (pointwise ghosts.eq)
keys_equiv = lists_equiv laws-law

own-row : (vs : List AnyValue) (i : ℕ) → value_of (get_or vs i Null) ≡ row (values_of vs) i
own-row [] i = refl
own-row (v ∷ vs) zero = refl
own-row (v ∷ vs) (suc i) = own-row vs i

-- the value in a row, as a value of a cell
pub own-is : (v : Values) (i : ℕ) → value_of (own_at i v) ≡ value_at (cell_of v) i
own-is (One v) i = refl
own-is (Many vs) i = own-row vs i

-- rows are alike just where their keys are the same
pub keys_alike : (keys : List Values) (i j : ℕ) → pointwise ghosts.eq (key_at keys i) (key_at keys j) ≡ are_alike (cells_of keys) i j
keys_alike [] i j = refl
keys_alike (k ∷ keys) i j = ap₂ (λ (a b : Bool). a && b) (values_same (own_at i k) (own_at j k) ∙ ap₂ same_value (own-is k i) (own-is k j)) (keys_alike keys i j)

-- the rows of each group, with one more
pub pushed : (numbers : List ℕ) (rows : List (List ℕ)) (count row n : ℕ) (xs : List ℕ) → n ≡ get_or numbers row 0 → n < count → length rows ≡ count
    → ((g : ℕ) → g < count → get_or rows g [] ≡ places_from (λ i. nat_eq g (get_or numbers i 0)) 0 row)
    → xs ≡ get_or rows n [] ++ row ∷ []
    → (g : ℕ) → g < count → get_or (set rows n xs) g [] ≡ places_from (λ i. nat_eq g (get_or numbers i 0)) 0 (row + 1)
pushed numbers rows count row n xs is lt len before more g gt = by (nat_eq g n) refl
  where
    test : ℕ → Bool
    test i = nat_eq g (get_or numbers i 0)

    by : (b : Bool) → nat_eq g n ≡ b → get_or (set rows n xs) g [] ≡ places_from test 0 (row + 1)
    by true e =
        let same : g ≡ n = eqb-true g n e in
        let inside : n < length rows = omega arith in
        ap (λ (k : ℕ). get_or (set rows n xs) k []) same
        ∙ get_or-set_same rows n xs [] inside
        ∙ more
        ∙ ap (λ (k : ℕ). get_or rows k [] ++ row ∷ []) (sym same)
        ∙ ap (λ (l : List ℕ). l ++ row ∷ []) (before g gt)
        ∙ sym (places-next test row true (ap (nat_eq g) (sym is) ∙ e))
    by false e =
        let other : g ≢ n = λ s. true≢false (sym (eq-eqb g n s) ∙ e) in
        get_or-set_other rows n g xs [] other
        ∙ before g gt
        ∙ sym (append-nil (places_from test 0 row))
        ∙ sym (places-next test row false (ap (nat_eq g) (sym is) ∙ e))
