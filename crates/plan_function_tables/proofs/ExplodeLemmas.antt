-- Explodes: how many rows come of a row, and the rows and values one after another.
use Rattle.std.proofs.Common.{◌≡◌, ◌∙◌, ◌++◌, ◌+◌, ◌<◌, ◌≤◌, ℕ, zero, suc, max, Bool, true, false, cond, List, [], ◌∷◌, map, fold, length, replicate, Option, None, Some, refl, sym, ap, subst, ⊎_elim, add-one, append-nil, get_or, arith, le_antisymm}
use Rattle.std.specs.List.{AllByRecursion, IsDistinct, filter as only_where, flat_map, range_with_len, slice_get}
use Rattle.std.specs.Str.{bytes_eq}
use Rattle.std.proofs.Math.Nat.{le-max_left, le-max_right, max-le}
use Rattle.std.proofs.Math.Path.{fun_ext}
use Rattle.std.proofs.lemmas.Grind.{flat_map-append}
use Rattle.std.proofs.lemmas.List.{map-append}
use Rattle.std.proofs.lemmas.Option.{slice_get-get_or}
use Rattle.plan_core.specs.Columns.{HasDistinctNames, names_of}
use Rattle.plan_core.specs.Names.{has, with_names}
use Rattle.plan_core.proofs.ColumnLemmas.{flip_false}
use Rattle.plan_expr.specs.Leaves.{Name}
use Rattle.plan_frame.specs.Frames.{Column, column_or, row}
use Rattle.plan_frame.specs.Reshaped.{alone, exploded_rows, exploded_values, items, rows_given}
use Rattle.plan_frame.specs.Values.{Value, null}
use Rattle.plan_frame.proofs.NameSets.{has_cons, has_first, has_later, has-once, named, same_named}
use Rattle.plan_table.specs.declared.column.Column.{Column as Typed}
use Rattle.plan_table.specs.declared.table.Table.{Table}
use Rattle.plan_table.specs.declared.value.PlainValue.{PlainValue}
use Rattle.plan_table.specs.Tables.{column_of, types_of}
use Rattle.plan_value.specs.Shown.{frame_of, single_of}
use Rattle.plan_value.proofs.PlaceLemmas.{range-more}
use Rattle.plan_value.proofs.ShownLemmas.{column-there, column-absent}
use Rattle.plan_function_tables.specs.Explode.{columns_over, items_in, longest, row_places, rows_by}

-- the greatest of some numbers

greatest-from : (a : ℕ) (xs : List ℕ) → a ≤ fold max a xs
greatest-from a [] = omega arith
greatest-from a (x ∷ xs) = let first = le-max_left a x in let later = greatest-from (max a x) xs in omega (arith, first, later)

greatest-first : (a x : ℕ) (xs : List ℕ) → x ≤ fold max a (x ∷ xs)
greatest-first a x xs = let first = le-max_right a x in let later = greatest-from (max a x) xs in omega (arith, first, later)

greatest-under : {X : Type 0} (f : X → ℕ) (a n : ℕ) (xs : List X) → a ≤ n → AllByRecursion (λ (x : X). f x ≤ n) xs → fold max a (map f xs) ≤ n
greatest-under f a n [] from each = from
greatest-under f a n (x ∷ xs) from each = greatest-under f (max a (f x)) n xs (max-le from each.0) each.1

-- null is in each of some rows that are null, and beyond them
null-row : (n i : ℕ) → row (replicate n null) i ≡ null
null-row zero i = refl
null-row (suc n) zero = refl
null-row (suc n) (suc i) = null-row n i

-- columns by name

other-column : (d : Typed) (cs left : List Typed) → AllByRecursion (λ (a : Name). bytes_eq d.name a ≡ false) (names_of (types_of left)) → AllByRecursion (λ (c : Typed). column_of cs c.name ≡ Some c) left → AllByRecursion (λ (c : Typed). column_of (d ∷ cs) c.name ≡ Some c) left
other-column d cs [] apart own = tt
other-column d cs (c ∷ left) apart own =
    (ap (λ (b : Bool). cond b (Some d) (column_of cs c.name)) (flip_false d.name c.name apart.0) ∙ own.0, other-column d cs left apart.1 own.1)

-- each column is that of its name where no name stands twice
own-columns : (cs : List Typed) → HasDistinctNames (types_of cs) → AllByRecursion (λ (c : Typed). column_of cs c.name ≡ Some c) cs
unfolding IsDistinct
own-columns [] once = tt
own-columns (c ∷ cs) once =
    (ap (λ (b : Bool). cond b (Some c) (column_of cs c.name)) (same_named c.name), other-column c cs cs once.0 (own-columns cs once.1))

-- how many rows come of a row

module _ (names : List Name) (i : ℕ) where
  abbrev apart : Typed → Bool
  apart c = has names c.name

  -- a column that is taken apart has no longer lists than the longest
  below-longest : (a : ℕ) (cs : List Typed) (b : Name) (c : Typed) → has names b ≡ true → column_of cs b ≡ Some c → items_in i c ≤ fold max a (map (items_in i) (only_where apart cs))
  below-longest a [] b c h e = cc
  below-longest a (d ∷ cs) b c h e = at (bytes_eq b d.name) (apart d) refl refl e (λ n later. below-longest n cs b c h later)
    where
      at : (t u : Bool) → bytes_eq b d.name ≡ t → apart d ≡ u → cond t (Some d) (column_of cs b) ≡ Some c
          → ((n : ℕ) → column_of cs b ≡ Some c → items_in i c ≤ fold max n (map (items_in i) (only_where apart cs)))
          → items_in i c ≤ fold max a (map (items_in i) (cond u (d ∷ only_where apart cs) (only_where apart cs)))
      at true true s p q later =
          let same : d ≡ c = cc in
          subst (λ (x : Typed). items_in i x ≤ fold max a (map (items_in i) (d ∷ only_where apart cs))) same (greatest-first a (items_in i d) (map (items_in i) (only_where apart cs)))
      at true false s p q later =
          let there : has names d.name ≡ true = ap (has names) (sym (named b d.name s)) ∙ h in
          cc
      at false true s p q later = later (max a (items_in i d)) q
      at false false s p q later = later a q

  module _ (t : Table) where
    abbrev given : ℕ
    given = rows_given names (frame_of t) i

    abbrev most : ℕ
    most = longest (only_where apart t.columns) i

    abbrev items_at : Name → ℕ
    items_at a = length (items (row (column_or (frame_of t) a) i))

    name-below : (a : Name) → has names a ≡ true → items_at a ≤ most
    name-below a h = at (column_of t.columns a) refl
      where
        at : (o : Option Typed) → column_of t.columns a ≡ o → items_at a ≤ most
        at None e =
            let none : items_at a ≡ 0 = ap (λ (vs : List Value). length (items (row vs i))) (sym (column-absent t a e)) ∙ ap (λ (v : Value). length (items v)) (null-row t.height i) in
            omega (arith, none)
        at (Some c) e = subst (λ (vs : List Value). length (items (row vs i)) ≤ most) (column-there t a c e) (below-longest 1 t.columns a c h e)

    names-below : (left : List Name) → ((a : Name) → has left a ≡ true → has names a ≡ true) → AllByRecursion (λ (a : Name). items_at a ≤ most) left
    names-below [] among = tt
    names-below (a ∷ left) among = (name-below a (among a (has_first a left)), names-below left (λ b h. among b (has_later a left b h)))

    name-among : (a : ℕ) (left : List Name) (b : Name) → has left b ≡ true → items_at b ≤ fold max a (map items_at left)
    name-among a [] b h = cc
    name-among a (c ∷ left) b h = ⊎_elim
        (λ (e : b ≡ c). subst (λ (x : Name). items_at x ≤ fold max a (map items_at (c ∷ left))) (sym e) (greatest-first a (items_at c) (map items_at left)))
        (λ (later : has left b ≡ true). name-among (max a (items_at c)) left b later)
        (has_cons c left b h)

    columns-below : (left : List Typed) → AllByRecursion (λ (c : Typed). column_of t.columns c.name ≡ Some c) left → AllByRecursion (λ (c : Typed). items_in i c ≤ given) (only_where apart left)
    columns-below [] own = tt
    columns-below (c ∷ left) own = at (apart c) refl (columns-below left own.1)
      where
        at : (b : Bool) → apart c ≡ b → AllByRecursion (λ (d : Typed). items_in i d ≤ given) (only_where apart left) → AllByRecursion (λ (d : Typed). items_in i d ≤ given) (cond b (c ∷ only_where apart left) (only_where apart left))
        at true e later = (subst (λ (vs : List Value). length (items (row vs i)) ≤ given) (sym (column-there t c.name c own.0)) (name-among 1 names c.name e), later)
        at false e later = later

    -- the longest list of the columns that are taken apart is that of the names
    pub longest-given : HasDistinctNames (types_of t.columns) → most ≡ given
    longest-given once = le_antisymm
        (greatest-under (items_in i) 1 given (only_where apart t.columns) (greatest-from 1 (map items_at names)) (columns-below t.columns (own-columns t.columns once)))
        (greatest-under items_at 1 most names (greatest-from 1 (map (items_in i) (only_where apart t.columns))) (names-below names (λ a h. h)))

-- the rows that come of a table are those of its frame
pub rows-given : (names : List Name) (t : Table) → HasDistinctNames (types_of t.columns) → rows_by (longest (only_where (λ (c : Typed). has names c.name) t.columns)) t.height ≡ exploded_rows names (frame_of t)
rows-given names t once = ap (λ (times : ℕ → ℕ). rows_by times t.height) (fun_ext (λ (i : ℕ). longest-given names i t once))

-- single values in a list

pub single-get : (vs : List PlainValue) (i : ℕ) (v : PlainValue) → i < length vs → v ≡ get_or vs i v → row (map alone (map single_of vs)) i ≡ alone (single_of v)
single-get vs i v lt is = there vs i (slice_get-get_or vs i v lt ∙ ap (λ (w : PlainValue). Some w) (sym is))
  where
    there : (ws : List PlainValue) (j : ℕ) → slice_get ws j ≡ Some v → row (map alone (map single_of ws)) j ≡ alone (single_of v)
    there [] j h = cc
    there (w ∷ ws) zero h = let q : w ≡ v = cc in ap (λ (x : PlainValue). alone (single_of x)) q
    there (w ∷ ws) (suc j) h = there ws j h

pub single-beyond : (vs : List PlainValue) (i : ℕ) → length vs ≤ i → row (map alone (map single_of vs)) i ≡ null
single-beyond [] i le = refl
single-beyond (v ∷ vs) zero le = absurd (omega (arith, le))
single-beyond (v ∷ vs) (suc i) le = single-beyond vs i (omega (arith, le))

-- one after another

range-next : (n : ℕ) → range_with_len 0 (n + 1) ≡ range_with_len 0 n ++ n ∷ []
range-next n =
    let q : 0 + n ≡ n = omega arith in
    ap (range_with_len 0) (add-one n) ∙ range-more 0 n ∙ ap (λ (k : ℕ). range_with_len 0 n ++ k ∷ []) q

-- a row once more
pub places-next : (i n : ℕ) → row_places i (n + 1) ≡ row_places i n ++ (i, n) ∷ []
places-next i n =
    let place : ℕ → ℕ × ℕ = λ (j : ℕ). (i, j) in
    ap (map place) (range-next n) ∙ map-append place (range_with_len 0 n) (n ∷ [])

-- the rows of a row more
pub rows-next : (times : ℕ → ℕ) (h : ℕ) → rows_by times (h + 1) ≡ rows_by times h ++ row_places h (times h)
rows-next times h =
    let rows : ℕ → List (ℕ × ℕ) = λ (i : ℕ). row_places i (times i) in
    ap (flat_map rows) (range-next h) ∙ flat_map-append rows (range_with_len 0 h) (h ∷ []) ∙ ap (λ (ps : List (ℕ × ℕ)). flat_map rows (range_with_len 0 h) ++ ps) (append-nil (rows h))

-- it is the same to take apart each column once

pub lists-once : (names : List Name) (cs : List Typed) → only_where (λ (c : Typed). has (with_names [] names) c.name) cs ≡ only_where (λ (c : Typed). has names c.name) cs
lists-once names cs = ap (λ (test : Name → Bool). only_where (λ (c : Typed). test c.name) cs) (fun_ext (has-once names))

pub columns-once : (names : List Name) (rows : List (ℕ × ℕ)) (cs : List Column) → columns_over (with_names [] names) rows cs ≡ columns_over names rows cs
columns-once names rows cs = ap (λ (test : Name → Bool). map (λ (c : Column). record { name = c.name; values = exploded_values (test c.name) rows c.values }) cs) (fun_ext (has-once names))
