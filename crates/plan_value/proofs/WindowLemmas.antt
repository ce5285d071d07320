-- Windows: the rows of groups, and a value for each row from those of the groups.
use Rattle.std.proofs.Common.{◌≡◌, ◌+◌, ◌<◌, ◌≤◌, ℕ, zero, suc, Bool, cond, List, [], ◌∷◌, map, refl, arith, length, get_or, ap, ap₂, ◌∙◌}
use Rattle.std.specs.Prelude.{nat_eq}
use Rattle.std.specs.List.{range_with_len}
use Rattle.plan_frame.specs.Frames.{Frame, picked, row, rows_at}
use Rattle.plan_frame.specs.Meaning.{Cell, Meaning, are_alike, many, only_value, places_from, rows_alike, windowed}
use Rattle.plan_frame.specs.Values.{Value}
use Rattle.plan_value.specs.Groups.{AreNumbered, rows_numbered}

-- tests that agree pass the same numbers
pub places-same : (p q : ℕ → Bool) (a n : ℕ) → ((j : ℕ) → a ≤ j → j < a + n → p j ≡ q j) → places_from p a n ≡ places_from q a n
places-same p q a zero h = refl
places-same p q a (suc n) h =
    ap₂ (λ (b : Bool) (xs : List ℕ). cond b (a ∷ xs) xs) (h a (omega arith) (omega arith)) (places-same p q (suc a) n (λ j le lt. h j (omega (arith, le)) (omega (arith, lt))))

-- what is made of each list, in the row of a list
row-made : (make : List ℕ → Value) (parts : List (List ℕ)) (g : ℕ) → g < length parts → row (map make parts) g ≡ make (get_or parts g [])
row-made make [] g lt = absurd (omega (arith, lt))
row-made make (p ∷ parts) zero lt = refl
row-made make (p ∷ parts) (suc g) lt = row-made make parts g (omega (arith, lt))

-- what is made of each number, by its place
each-place : (make at : ℕ → Value) (a : ℕ) (xs : List ℕ) → ((i : ℕ) → i < length xs → make (get_or xs i 0) ≡ at (a + i)) → map make xs ≡ map at (range_with_len a (length xs))
each-place make at a [] h = refl
each-place make at a (x ∷ xs) h =
    let here : a + 0 ≡ a = omega arith in
    ap₂ (λ (v : Value) (vs : List Value). v ∷ vs) (h 0 (omega arith) ∙ ap at here)
    (each-place make at (a + 1) xs (λ i lt. let there : a + suc i ≡ a + 1 + i = omega arith in h (suc i) (omega (arith, lt)) ∙ ap at there))

-- the value of its group in each row is that over the rows that are the same in each key
pub windowed-is : (m : Meaning) (keys : List Cell) (f : Frame) (count : ℕ) (numbers : List ℕ) (parts : List (List ℕ)) (values : List Value)
    → AreNumbered keys f.height count numbers
    → length parts ≡ count
    → ((g : ℕ) → g < count → get_or parts g [] ≡ rows_numbered numbers g)
    → values ≡ map (λ (rows : List ℕ). only_value (m (rows_at rows f))) parts
    → many (picked numbers values) ≡ windowed m keys f
windowed-is m keys f count numbers parts values h len each made =
    ap (λ (vs : List Value). many (picked numbers vs)) made
    ∙ ap many (each-place (row (map make parts)) at 0 numbers there)
    ∙ ap (λ (n : ℕ). many (map at (range_with_len 0 n))) h.height
  where
    make : List ℕ → Value
    make rows = only_value (m (rows_at rows f))

    at : ℕ → Value
    at i = make (rows_alike keys f.height i)

    there : (i : ℕ) → i < length numbers → row (map make parts) (get_or numbers i 0) ≡ at (0 + i)
    there i lt =
        let inside : i < f.height = omega (arith, lt, h.height) in
        let g = get_or numbers i 0 in
        let below : g < count = h.below i inside in
        let place : i ≡ 0 + i = omega arith in
        row-made make parts g (omega (arith, below, len))
        ∙ ap make (each g below
        ∙ ap (places_from (λ (j : ℕ). nat_eq g (get_or numbers j 0)) 0) h.height
        ∙ places-same (λ (j : ℕ). nat_eq g (get_or numbers j 0)) (are_alike keys i) 0 f.height (λ j le less. h.same i j inside (omega (arith, less))))
        ∙ ap at place
