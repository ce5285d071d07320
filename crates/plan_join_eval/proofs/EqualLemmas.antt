-- Rows of two sides with equal keys: those that are alike in the keys of both sides, one after another.
use Rattle.std.proofs.Common.{◌≡◌, ◌∙◌, ◌++◌, ◌+◌, ◌<◌, ◌&&◌, ◌||◌, ◌⊎◌, inl, inr, ℕ, zero, suc, Bool, true, false, not, cond, List, [], ◌∷◌, length, None, Some, get_or, refl, sym, ap, ap₂, arith, add-one}
use Rattle.std.specs.Prelude.{nat_eq}
use Rattle.std.specs.List.{filter as only_where, range_with_len}
use Rattle.std.proofs.lemmas.List.FromFn.{get_or-map-range_with_len, length-map-range_with_len}
use Rattle.plan_frame.specs.Values.{Value, is_null, null, same_value}
use Rattle.plan_frame.specs.Frames.{row}
use Rattle.plan_frame.specs.Meaning.{Cell, are_alike, places_from, value_at}
use Rattle.plan_join.specs.Matching.{key_matches, keys_match}
use Rattle.plan_join.specs.Pairs.{passing}
use Rattle.plan_join.proofs.PlaceLemmas.{passing-below, passing-none}
use Rattle.plan_value.specs.declared.exprs.Values.{Values}
use Rattle.plan_value.specs.Cells.{cells_of}
use Rattle.plan_join.specs.Rows.{listed_at}
use Rattle.plan_join_eval.specs.Equal.{in_rows, may_match, none_null, number_where, numbers_where, stacked, stacked_cells}

-- places that pass, told in two ways
places_where : (test : ℕ → Bool) (a n : ℕ) → places_from test a n ≡ only_where test (range_with_len a n)
places_where test a zero = refl
places_where test a (suc n) = ap (λ (xs : List ℕ). cond (test a) (a ∷ xs) xs) (places_where test (suc a) n ∙ ap (λ (b : ℕ). only_where test (range_with_len b n)) (sym (add-one a)))

-- none is left where no key is on a side
pub stacked-done : (h k : ℕ) (cs ds : List Values) → (length cs ≡ 0) ⊎ (length ds ≡ 0) → stacked_cells h k (cells_of cs) (cells_of ds) ≡ []
stacked-done h k [] ds e = refl
stacked-done h k (c ∷ cs) [] e = refl
stacked-done h k (c ∷ cs) (d ∷ ds) (inl e) = absurd (omega (arith, e))
stacked-done h k (c ∷ cs) (d ∷ ds) (inr e) = absurd (omega (arith, e))

-- values in rows of two sides

row_first : (xs ys : List Value) (i : ℕ) → i < length xs → row (xs ++ ys) i ≡ row xs i
row_first [] ys i lt = absurd (omega (arith, lt))
row_first (x ∷ xs) ys zero lt = refl
row_first (x ∷ xs) ys (suc i) lt = row_first xs ys i (omega (arith, lt))

row_second : (xs ys : List Value) (i : ℕ) → row (xs ++ ys) (length xs + i) ≡ row ys i
row_second [] ys i = let q : 0 + i ≡ i = omega arith in ap (row ys) q
row_second (x ∷ xs) ys i = let q : suc (length xs) + i ≡ suc (length xs + i) = omega arith in ap (row (x ∷ (xs ++ ys))) q ∙ row_second xs ys i

row_is : (vs : List Value) (i : ℕ) → i < length vs → row vs i ≡ get_or vs i null
row_is [] i lt = absurd (omega (arith, lt))
row_is (v ∷ vs) zero lt = refl
row_is (v ∷ vs) (suc i) lt = row_is vs i (omega (arith, lt))

in_row : (c : Cell) (h i : ℕ) → i < h → row (in_rows c h) i ≡ value_at c i
in_row c h i lt = row_is (in_rows c h) i (omega (arith, lt, length-map-range_with_len (value_at c) 0 h)) ∙ get_or-map-range_with_len (value_at c) 0 h i i null lt (omega arith)

first_value : (h k : ℕ) (c d : Cell) (i : ℕ) → i < h → value_at (stacked h k c d) i ≡ value_at c i
first_value h k c d i lt = row_first (in_rows c h) (in_rows d k) i (omega (arith, lt, length-map-range_with_len (value_at c) 0 h)) ∙ in_row c h i lt

second_value : (h k : ℕ) (c d : Cell) (j : ℕ) → j < k → value_at (stacked h k c d) (h + j) ≡ value_at d j
second_value h k c d j lt =
    ap (λ (n : ℕ). row (in_rows c h ++ in_rows d k) (n + j)) (sym (length-map-range_with_len (value_at c) 0 h))
    ∙ row_second (in_rows c h) (in_rows d k) j ∙ in_row d k j lt

-- keys match where a row may match and the keys are alike

key_may : (nulls : Bool) (c : Cell) (cs : List Cell) (i : ℕ) → may_match nulls (c ∷ cs) i ≡ true → ((nulls || not (is_null (value_at c i))) ≡ true) × (may_match nulls cs i ≡ true)
key_may true c cs i e = (refl, refl)
key_may false c cs i e = at (not (is_null (value_at c i))) (none_null cs i) e
  where
    at : (a b : Bool) → (a && b) ≡ true → (a ≡ true) × (b ≡ true)
    at true b e = (refl, e)
    at false b e = cc

and_true : (a b : Bool) → b ≡ true → (a && b) ≡ a
and_true true b e = e
and_true false b e = refl

alike_match : (nulls : Bool) (h k : ℕ) (cs ds : List Cell) (i j : ℕ) → length ds ≡ length cs → i < h → j < k → may_match nulls cs i ≡ true → are_alike (stacked_cells k h ds cs) (k + i) j ≡ keys_match nulls cs ds i j
alike_match nulls h k [] [] i j l li lj may = refl
alike_match nulls h k (c ∷ cs) (d ∷ ds) i j l li lj may =
    let parts = key_may nulls c cs i may in
    ap₂ (λ (x y : Bool). x && y)
    (ap₂ same_value (second_value k h d c i li) (first_value k h d c j lj) ∙ sym (and_true (same_value (value_at c i) (value_at d j)) (nulls || not (is_null (value_at c i))) parts.0))
    (alike_match nulls h k cs ds i j (omega (arith, l)) li lj parts.1)
alike_match nulls h k [] (d ∷ ds) i j l li lj may = absurd (omega (arith, l))
alike_match nulls h k (c ∷ cs) [] i j l li lj may = absurd (omega (arith, l))

-- and a row that may not matches none

may_not : (c : Cell) (cs : List Cell) (i : ℕ) (nulls : Bool) → may_match nulls (c ∷ cs) i ≡ false → (a : Bool) → (a ≡ (nulls || not (is_null (value_at c i)))) → (a ≡ true → may_match nulls cs i ≡ false)
may_not c cs i true e a q t = cc
may_not c cs i false e a q t = at (not (is_null (value_at c i))) (none_null cs i) e (sym q ∙ t)
  where
    at : (x y : Bool) → (x && y) ≡ false → x ≡ true → y ≡ false
    at true y e f = e
    at false y e f = cc

no_match : (nulls : Bool) (cs ds : List Cell) (i j : ℕ) → length ds ≡ length cs → may_match nulls cs i ≡ false → keys_match nulls cs ds i j ≡ false
no_match true cs ds i j l e = cc
no_match false [] ds i j l e = cc
no_match false (c ∷ cs) [] i j l e = absurd (omega (arith, l))
no_match false (c ∷ cs) (d ∷ ds) i j l e = at (not (is_null (value_at c i))) refl (λ f. no_match false cs ds i j (omega (arith, l)) f)
  where
    second : (x y : Bool) → y ≡ false → (x && y) ≡ false
    second true y f = f
    second false y f = refl

    first : (x y : Bool) → y ≡ false → ((x && y) && keys_match false cs ds i j) ≡ false
    first true y f = ap (λ (b : Bool). b && keys_match false cs ds i j) f
    first false y f = refl

    at : (b : Bool) → not (is_null (value_at c i)) ≡ b → (may_match false cs i ≡ false → keys_match false cs ds i j ≡ false) → keys_match false (c ∷ cs) (d ∷ ds) i j ≡ false
    at true q rest = second (key_matches false (value_at c i) (value_at d j)) (keys_match false cs ds i j) (rest (may_not c cs i false e true (sym q) refl))
    at false q rest = first (same_value (value_at c i) (value_at d j)) (not (is_null (value_at c i))) q

-- a row's list: those that have its number, or none

pub own-list : (nulls : Bool) (cs ds : List Cell) (h k i g : ℕ) (inner : List ℕ) → length ds ≡ length cs → i < h → may_match nulls cs i ≡ true
    → ((j : ℕ) → j < k → nat_eq g (get_or inner j 0) ≡ are_alike (stacked_cells k h ds cs) (k + i) j) → length inner ≡ k
    → places_from (λ j. nat_eq g (get_or inner j 0)) 0 (length inner) ≡ passing (keys_match nulls cs ds i) k
own-list nulls cs ds h k i g inner l lt may same long =
    ap (places_from (λ j. nat_eq g (get_or inner j 0)) 0) long
    ∙ places_where (λ j. nat_eq g (get_or inner j 0)) 0 k
    ∙ passing-below (λ j. nat_eq g (get_or inner j 0)) (keys_match nulls cs ds i) k (λ j lj. same j lj ∙ alike_match nulls h k cs ds i j l lt lj may)

pub no-list : (nulls : Bool) (cs ds : List Cell) (k i : ℕ) → length ds ≡ length cs → may_match nulls cs i ≡ false → [] ≡ passing (keys_match nulls cs ds i) k
no-list nulls cs ds k i l may = sym (passing-none (keys_match nulls cs ds i) (range_with_len 0 k) (λ j. no_match nulls cs ds i j l may))

-- the lists by number are those of the rows of the first side that the number of a row has

pub listed-where : (nulls : Bool) (cs ds : List Cell) (h k i : ℕ) (inner own : List ℕ) (lists : List (List ℕ)) → length ds ≡ length cs → i < h → length inner ≡ k → length own ≡ h
    → ((j : ℕ) → j < k → nat_eq (get_or own i 0) (get_or inner j 0) ≡ are_alike (stacked_cells k h ds cs) (k + i) j)
    → get_or lists (get_or own i 0) [] ≡ places_from (λ j. nat_eq (get_or own i 0) (get_or inner j 0)) 0 (length inner)
    → listed_at lists (get_or (numbers_where nulls cs own) i None) ≡ passing (keys_match nulls cs ds i) k
listed-where nulls cs ds h k i inner own lists l lt long longer same list =
    ap (listed_at lists) (get_or-map-range_with_len (number_where nulls cs own) 0 (length own) i i None (omega (arith, lt, longer)) (omega arith))
    ∙ at (may_match nulls cs i) refl
  where
    at : (b : Bool) → may_match nulls cs i ≡ b → listed_at lists (cond b (Some (get_or own i 0)) None) ≡ passing (keys_match nulls cs ds i) k
    at true e = list ∙ own-list nulls cs ds h k i (get_or own i 0) inner l lt e same long
    at false e = no-list nulls cs ds k i l e
