-- Rows, one after another.
use Rattle.std.proofs.Common.{◌≡◌, ◌++◌, ◌+◌, ◌<◌, ◌≤◌, length, get_or, ℕ, zero, suc, List, map, [], ◌∷◌, None, Some, refl, ap, sym, ◌∙◌, arith, add-one}
use Rattle.std.specs.List.{slice_get, range_with_len}
use Rattle.std.proofs.lemmas.List.{map-append}
use Rattle.std.proofs.lemmas.Option.{slice_get-get_or, slice_get_past}
use Rattle.plan_table.specs.declared.value.AnyValue.{AnyValue}
use Rattle.plan_frame.specs.Values.{Value, null}
use Rattle.plan_frame.specs.Frames.{row}
use Rattle.plan_frame.specs.Meaning.{zip_by}
use Rattle.plan_value.specs.Shown.{value_of, values_of}
use Rattle.plan_value.proofs.PlaceLemmas.{range-more}

-- the value in a row that there is
pub row-there : (vs : List AnyValue) (i : ℕ) (v : AnyValue) → slice_get vs i ≡ Some v → row (values_of vs) i ≡ value_of v
row-there [] i v h = cc
row-there (w ∷ vs) zero v h = let q : w ≡ v = cc in ap value_of q
row-there (w ∷ vs) (suc i) v h = row-there vs i v h

-- null in a row that there isn't
pub row-past : (vs : List AnyValue) (i : ℕ) → slice_get vs i ≡ None → row (values_of vs) i ≡ null
row-past [] i h = refl
row-past (w ∷ vs) zero h = cc
row-past (w ∷ vs) (suc i) h = row-past vs i h

-- the same, of a row below the length
pub row-get : (vs : List AnyValue) (i : ℕ) (v : AnyValue) → i < length vs → v ≡ get_or vs i v → row (values_of vs) i ≡ value_of v
row-get vs i v lt is = row-there vs i v (slice_get-get_or vs i v lt ∙ ap (λ (w : AnyValue). Some w) (sym is))

pub row-beyond : (vs : List AnyValue) (i : ℕ) → length vs ≤ i → row (values_of vs) i ≡ null
row-beyond vs i le = row-past vs i (slice_get_past vs i le)

-- row by row, nothing comes after the end of a side
pub zip-left : (f : Value → Value → Value) (xs ys : List AnyValue) → length xs ≡ 0 → zip_by f (values_of xs) (values_of ys) ≡ []
zip-left f [] ys h = refl
zip-left f (x ∷ xs) ys h = absurd (omega (arith, h))

pub zip-right : (f : Value → Value → Value) (xs ys : List AnyValue) → length ys ≡ 0 → zip_by f (values_of xs) (values_of ys) ≡ []
zip-right f [] ys h = refl
zip-right f (x ∷ xs) [] h = refl
zip-right f (x ∷ xs) (y ∷ ys) h = absurd (omega (arith, h))

-- the values of so many rows, and the next one
pub values-rows : (at : ℕ → Value) (n : ℕ) → map at (range_with_len 0 (n + 1)) ≡ map at (range_with_len 0 n) ++ at n ∷ []
values-rows at n =
    let q : 0 + n ≡ n = omega arith in
    ap (λ (k : ℕ). map at (range_with_len 0 k)) (add-one n)
    ∙ ap (map at) (range-more 0 n)
    ∙ map-append at (range_with_len 0 n) ((0 + n) ∷ [])
    ∙ ap (λ (k : ℕ). map at (range_with_len 0 n) ++ at k ∷ []) q
