-- Cells in some rows, what is given by the numbers of rows, and all rows of a frame.
use Rattle.plan_order_laws.specs.Rows.{Below, IsLevel, nth, rows_cell}
use Rattle.std.proofs.Common.{◌≡◌, ℕ, zero, suc, ◌+◌, ◌<◌, Bool, true, false, cond, List, [], ◌∷◌, length, map, Option, Some, None, replicate, unwrap_or, option_map, refl, sym, ap, ap₂, ◌∙◌, arith}
use Rattle.std.specs.List.{range_with_len}
use Rattle.std.specs.Str.{bytes_eq}
use Rattle.std.proofs.lemmas.List.FromFn.{length-range_with_len}
use Rattle.plan_core.specs.Columns.{Columns}
use Rattle.plan_expr.specs.Leaves.{Name}
use Rattle.plan_frame.specs.Values.{Value, null}
use Rattle.plan_frame.specs.Frames.{Column, Frame, HasSchema, HaveTypes, column_or, found, picked, picked_columns, row, rows_at}
use Rattle.plan_frame.specs.Meaning.{Cell, one, many, value_at, zip_by}
use Rattle.plan_frame.proofs.FrameLemmas.{found-picked}
use Rattle.plan_order_laws.proofs.Rows.{all_below, in_places, row_map}

long_replicate : (h : ℕ) → length (replicate h null) ≡ h
long_replicate zero = refl
long_replicate (suc h) = ap suc (long_replicate h)

level_columns : (h : ℕ) (cs : List Column) (s : Columns) (a : Name) → HaveTypes h cs s → length (unwrap_or (found cs a) (replicate h null)) ≡ h
level_columns h [] [] a k = long_replicate h
level_columns h (c ∷ cs) (x ∷ s) a k = at (bytes_eq a c.name) (level_columns h cs s a k.3)
  where
    at : (b : Bool) → length (unwrap_or (found cs a) (replicate h null)) ≡ h → length (unwrap_or (cond b (Some c.values) (found cs a)) (replicate h null)) ≡ h
    at true e = k.1
    at false e = e
level_columns h [] (x ∷ s) a k = absurd k
level_columns h (c ∷ cs) [] a k = absurd k

pub level_frame : (f : Frame) (s : Columns) → HasSchema f s → IsLevel f
level_frame f s k a = level_columns f.height f.columns s a k

null_row : (h i : ℕ) → row (replicate h null) i ≡ null
null_row zero i = refl
null_row (suc h) zero = refl
null_row (suc h) (suc i) = null_row h i

null_rows : (h : ℕ) (ps : List ℕ) → replicate (length ps) null ≡ picked ps (replicate h null)
null_rows h [] = refl
null_rows h (p ∷ ps) = ap₂ (λ (v : Value) (vs : List Value). v ∷ vs) (sym (null_row h p)) (null_rows h ps)

pub column_rows : (f : Frame) (ps : List ℕ) (a : Name) → column_or (rows_at ps f) a ≡ picked ps (column_or f a)
column_rows f ps a = ap (λ (o : Option (List Value)). unwrap_or o (replicate (length ps) null)) (found-picked ps f.columns a) ∙ at (found f.columns a)
  where
    at : (o : Option (List Value)) → unwrap_or (option_map (picked ps) o) (replicate (length ps) null) ≡ picked ps (unwrap_or o (replicate f.height null))
    at None = null_rows f.height ps
    at (Some vs) = refl

row_of_map : (f : Value → Value) (vs : List Value) (i : ℕ) → i < length vs → row (map f vs) i ≡ f (row vs i)
row_of_map f [] i lt = absurd (omega (arith, lt))
row_of_map f (v ∷ vs) zero lt = refl
row_of_map f (v ∷ vs) (suc i) lt = row_of_map f vs i (omega (arith, lt))

row_of_zip : (f : Value → Value → Value) (xs ys : List Value) (i : ℕ) → i < length xs → length ys ≡ length xs → row (zip_by f xs ys) i ≡ f (row xs i) (row ys i)
row_of_zip f [] ys i lt e = absurd (omega (arith, lt))
row_of_zip f (x ∷ xs) [] i lt e = absurd (omega (arith, e))
row_of_zip f (x ∷ xs) (y ∷ ys) zero lt e = refl
row_of_zip f (x ∷ xs) (y ∷ ys) (suc i) lt e = row_of_zip f xs ys i (omega (arith, lt)) (omega (arith, e))

pub long_zip : (f : Value → Value → Value) (xs ys : List Value) → length ys ≡ length xs → length (zip_by f xs ys) ≡ length xs
long_zip f [] ys e = refl
long_zip f (x ∷ xs) [] e = absurd (omega (arith, e))
long_zip f (x ∷ xs) (y ∷ ys) e = ap suc (long_zip f xs ys (omega (arith, e)))

pub picked_map : (f : Value → Value) (vs : List Value) (ps : List ℕ) → Below (length vs) ps → map f (picked ps vs) ≡ picked ps (map f vs)
picked_map f vs [] h = refl
picked_map f vs (p ∷ ps) h = ap₂ (λ (x : Value) (xs : List Value). x ∷ xs) (sym (row_of_map f vs p h.0)) (picked_map f vs ps h.1)

pub picked_zip : (f : Value → Value → Value) (xs ys : List Value) (ps : List ℕ) → Below (length xs) ps → length ys ≡ length xs → zip_by f (picked ps xs) (picked ps ys) ≡ picked ps (zip_by f xs ys)
picked_zip f xs ys [] h e = refl
picked_zip f xs ys (p ∷ ps) h e = ap₂ (λ (v : Value) (vs : List Value). v ∷ vs) (sym (row_of_zip f xs ys p h.0 e)) (picked_zip f xs ys ps h.1 e)

pub row_of_numbers : (at : ℕ → Value) (a n i : ℕ) → i < n → row (map at (range_with_len a n)) i ≡ at (a + i)
row_of_numbers at a zero i lt = absurd (omega (arith, lt))
row_of_numbers at a (suc n) zero lt = ap at (omega arith)
row_of_numbers at a (suc n) (suc i) lt = row_of_numbers at (a + 1) n i (omega (arith, lt)) ∙ ap at (omega arith)

map_twice : (at : ℕ → Value) (g : ℕ → ℕ) (is : List ℕ) → map (λ i. at (g i)) is ≡ map at (map g is)
map_twice at g [] = refl
map_twice at g (i ∷ is) = ap (λ (l : List Value). at (g i) ∷ l) (map_twice at g is)

pub map_below : (v w : ℕ → Value) (n : ℕ) (is : List ℕ) → Below n is → ((i : ℕ) → i < n → v i ≡ w i) → map v is ≡ map w is
map_below v w n [] h same = refl
map_below v w n (i ∷ is) h same = ap₂ (λ (x : Value) (xs : List Value). x ∷ xs) (same i h.0) (map_below v w n is h.1 same)

-- what is given by numbers, in some rows
pub numbers_rows : (at by : ℕ → Value) (h : ℕ) (ps : List ℕ) → Below h ps → ((i : ℕ) → i < length ps → by i ≡ at (nth ps i)) → map by (range_with_len 0 (length ps)) ≡ picked ps (map at (range_with_len 0 h))
numbers_rows at by h ps b same =
    map_below by (λ i. at (nth ps i)) (length ps) (range_with_len 0 (length ps)) (all_below (length ps)) same
    ∙ map_twice at (nth ps) (range_with_len 0 (length ps))
    ∙ ap (map at) (in_places ps)
    ∙ map_below at (row (map at (range_with_len 0 h))) h ps b (λ i lt. sym (row_of_numbers at 0 h i lt ∙ ap at (omega arith)))

pub value_rows : (c : Cell) (ps : List ℕ) (i : ℕ) → i < length ps → value_at (rows_cell ps c) i ≡ value_at c (nth ps i)
value_rows (one v) ps i lt = refl
value_rows (many vs) ps i lt = row_map (row vs) ps i lt

-- all rows of a frame are the frame
picked_all : (vs : List Value) → picked (range_with_len 0 (length vs)) vs ≡ vs
picked_all [] = refl
picked_all (v ∷ vs) = let e : 0 + 1 ≡ suc 0 = omega arith in ap (λ (m : ℕ). v ∷ picked (range_with_len m (length vs)) (v ∷ vs)) e ∙ ap (λ (l : List Value). v ∷ l) (shift v vs 0 (length vs) ∙ picked_all vs)
  where
    shift : (u : Value) (us : List Value) (a n : ℕ) → picked (range_with_len (suc a) n) (u ∷ us) ≡ picked (range_with_len a n) us
    shift u us a zero = refl
    shift u us a (suc n) = let e : suc a + 1 ≡ suc (a + 1) = omega arith in ap (λ (m : ℕ). row us a ∷ picked (range_with_len m n) (u ∷ us)) e ∙ ap (λ (l : List Value). row us a ∷ l) (shift u us (a + 1) n)

whole_columns : (h : ℕ) (cs : List Column) (s : Columns) → HaveTypes h cs s → picked_columns (range_with_len 0 h) cs ≡ cs
whole_columns h [] [] k = refl
whole_columns h (c ∷ cs) (x ∷ s) k = ap₂ (λ (vs : List Value) (ds : List Column). record { name = c.name; values = vs } ∷ ds) (ap (λ (n : ℕ). picked (range_with_len 0 n) c.values) (sym k.1) ∙ picked_all c.values) (whole_columns h cs s k.3)
whole_columns h [] (x ∷ s) k = absurd k
whole_columns h (c ∷ cs) [] k = absurd k

pub whole_rows : (g : Frame) (s : Columns) → HasSchema g s → rows_at (range_with_len 0 g.height) g ≡ g
whole_rows g s k = ap₂ (λ (n : ℕ) (cs : List Column). record { height = n; columns = cs }) (length-range_with_len 0 g.height) (whole_columns g.height g.columns s k)
