-- Columns with values.
use Rattle.std.proofs.Common.{◌≡◌, ◌+◌, ◌<◌, ◌≤◌, ◌++◌, ℕ, zero, suc, Bool, true, false, List, [], ◌∷◌, length, take, take_all, drop, None, Some, refl, sym, ap, ◌∙◌, arith, append_assoc, add-one, if◌then◌else◌}
use Rattle.std.specs.List.{AllByRecursion, IsDistinct, filter, slice_get}
use Rattle.std.specs.Prelude.{All}
use Rattle.std.proofs.lemmas.List.Elements.{All-cons}
use Rattle.std.proofs.lemmas.List.{append-nil, drop_all}
use Rattle.std.proofs.Math.Path.{fun_ext}
use Rattle.std.specs.Option.{option_to_list}
use Rattle.std.specs.Str.{bytes_eq}
use Rattle.plan_core.specs.Columns.{Columns, HasDistinctNames, names_of, with_type}
use Rattle.plan_core.specs.Names.{has, with_names}
use Rattle.plan_core.proofs.CopyLemmas.{with_type-copied}
use Rattle.plan_scan.proofs.NameLemmas.{has-once}
use Rattle.plan_core.specs.declared.data_type.DataType.{DataType}
use Rattle.plan_table.specs.declared.value.AnyValue.{AnyValue}
use Rattle.plan_scan.specs.declared.stats.ColumnStats.{ColumnStats}
use Rattle.plan_scan.specs.Stats.{Stats, stat, column_of, columns_of, with_values, Fits, HasType, AreOf, stats_at, named_among, places_among}

-- the bytes of a name
abbrev Text : Type 0
Text = List ℕ

-- the items from a place on begin with the item at the place
pub drop-at : {X : Type 0} (xs : List X) (i : ℕ) (x : X) → slice_get xs i ≡ Some x → drop i xs ≡ x ∷ drop (suc i) xs
drop-at [] i x h = cc
drop-at (y ∷ ys) zero x h = let same : y ≡ x = cc in ap (λ z. z ∷ ys) same
drop-at (y ∷ ys) (suc i) x h = drop-at ys i x h

-- values that fit columns, one for one
pub fitting : (cs : Columns) (vs : List AnyValue) → Fits cs vs → AreOf cs (with_values cs vs)
fitting [] [] h = record { named = refl; typed = tt }
fitting [] (v ∷ vs) h = absurd h
fitting (c ∷ cs) [] h = absurd h
fitting (c ∷ cs) (v ∷ vs) h = let rest = fitting cs vs h.1 in record { named = ap (λ (x : Columns). c ∷ x) rest.named; typed = (h.0, rest.typed) }

-- the column at a place has the value at that place
pub one-more : (cs : Columns) (vs : List AnyValue) (i : ℕ) (c : Text × DataType) (v : AnyValue) → slice_get cs i ≡ Some c → slice_get vs i ≡ Some v → take i (with_values cs vs) ++ stat c v ∷ [] ≡ take (suc i) (with_values cs vs)
one-more [] vs i c v e f = cc
one-more (d ∷ cs) [] i c v e f = cc
one-more (d ∷ cs) (w ∷ vs) zero c v e f = let same : d ≡ c = cc in let also : w ≡ v = cc in rw (same, also) refl
one-more (d ∷ cs) (w ∷ vs) (suc i) c v e f = ap (λ (x : Stats). stat d w ∷ x) (one-more cs vs i c v e f)

-- a value has a column
pub has-column : (cs : Columns) (vs : List AnyValue) (i : ℕ) (v : AnyValue) → Fits cs vs → slice_get vs i ≡ Some v → slice_get cs i ≡ None → ⊥
has-column [] [] i v h e f = cc
has-column [] (w ∷ vs) i v h e f = h
has-column (c ∷ cs) [] i v h e f = h
has-column (c ∷ cs) (w ∷ vs) zero v h e f = cc
has-column (c ∷ cs) (w ∷ vs) (suc i) v h e f = has-column cs vs i v h.1 e f

pub length-with_values : (cs : Columns) (vs : List AnyValue) → Fits cs vs → length (with_values cs vs) ≡ length vs
length-with_values [] [] h = refl
length-with_values [] (v ∷ vs) h = absurd h
length-with_values (c ∷ cs) [] h = absurd h
length-with_values (c ∷ cs) (v ∷ vs) h = ap suc (length-with_values cs vs h.1)

typed-one : (ss : Stats) (i : ℕ) → AllByRecursion HasType ss → AllByRecursion HasType (option_to_list (slice_get ss i))
typed-one [] i h = tt
typed-one (s ∷ ss) zero h = (h.0, tt)
typed-one (s ∷ ss) (suc i) h = typed-one ss i h.1

typed-both : (ss ts : Stats) → AllByRecursion HasType ss → AllByRecursion HasType ts → AllByRecursion HasType (ss ++ ts)
typed-both [] ts h k = k
typed-both (s ∷ ss) ts h k = (h.0, typed-both ss ts h.1 k)

-- values stay of their types
pub typed-at : (ss : Stats) (places : List ℕ) → AllByRecursion HasType ss → AllByRecursion HasType (stats_at ss places)
typed-at ss [] h = tt
typed-at ss (i ∷ places) h = typed-both (option_to_list (slice_get ss i)) (stats_at ss places) (typed-one ss i h) (typed-at ss places h)

-- one place more
pub place-more : (ss : Stats) (places : List ℕ) (k i : ℕ) (s : ColumnStats) → slice_get places k ≡ Some i → slice_get ss i ≡ Some s → stats_at ss (take k places) ++ s ∷ [] ≡ stats_at ss (take (suc k) places)
place-more ss [] k i s e f = cc
place-more ss (j ∷ places) zero i s e f = let same : j ≡ i = cc in rw (same, f) refl
place-more ss (j ∷ places) (suc k) i s e f = append_assoc (option_to_list (slice_get ss j)) (stats_at ss (take k places)) (s ∷ []) ∙ ap (λ (x : Stats). option_to_list (slice_get ss j) ++ x) (place-more ss places k i s e f)

-- a column is put behind those that are there, with its value
pub new-next : (cs : Columns) (vs : List AnyValue) (i : ℕ) (done : Stats) (c : Text × DataType) (v : AnyValue) (s : ColumnStats) → done ≡ take i (with_values cs vs) → slice_get cs i ≡ Some c → slice_get vs i ≡ Some v → s ≡ stat c v → done ++ s ∷ [] ≡ take (i + 1) (with_values cs vs)
new-next cs vs i done c v s is e f p = rw (is, p, add-one) (one-more cs vs i c v e f)

pub new-all : (cs : Columns) (vs : List AnyValue) (i : ℕ) (done : Stats) → Fits cs vs → done ≡ take i (with_values cs vs) → length vs ≤ i → done ≡ with_values cs vs
new-all cs vs i done fits is h = is ∙ take_all i (with_values cs vs) (omega (arith, length-with_values cs vs fits))

-- the column at one place more is put behind those that are there
pub place-next : (ss : Stats) (places : List ℕ) (k i : ℕ) (kept : Stats) (s t : ColumnStats) → kept ≡ stats_at ss (take k places) → slice_get places k ≡ Some i → slice_get ss i ≡ Some s → t ≡ s → kept ++ t ∷ [] ≡ stats_at ss (take (k + 1) places)
place-next ss places k i kept s t is e f p = rw (is, p, add-one) (place-more ss places k i s e f)

pub length-columns : (ss : Stats) → length (columns_of ss) ≡ length ss
length-columns [] = refl
length-columns (s ∷ ss) = ap suc (length-columns ss)

-- the places of columns are places
pub places-within : (names : List Text) (n i : ℕ) (cs : Columns) → i + length cs ≤ n → All (λ k. k < n) (places_among names i cs)
places-within names n i [] h = λ k d within. absurd (omega arith)
places-within names n i (c ∷ cs) h = at (has names c.0) (places-within names n (suc i) cs (omega arith))
  where
    at : (t : Bool) → All (λ k. k < n) (places_among names (suc i) cs) → All (λ k. k < n) (if t then i ∷ places_among names (suc i) cs else places_among names (suc i) cs)
    at true rest = All-cons (λ k. k < n) i (places_among names (suc i) cs) (omega arith) rest
    at false rest = rest

after : (pre : Stats) (s : ColumnStats) (ss : Stats) → slice_get (pre ++ s ∷ ss) (length pre) ≡ Some s
after [] s ss = refl
after (p ∷ pre) s ss = after pre s ss

longer : (pre : Stats) (s : ColumnStats) → length (pre ++ s ∷ []) ≡ suc (length pre)
longer [] s = refl
longer (p ∷ pre) s = ap suc (longer pre s)

-- the columns at the places of those of some names are those of these names
pub columns-at : (names : List Text) (pre ss : Stats) → columns_of (stats_at (pre ++ ss) (places_among names (length pre) (columns_of ss))) ≡ named_among names (columns_of ss)
columns-at names pre [] = refl
columns-at names pre (s ∷ ss) = at (has names s.field.name) (
    ap (λ (whole : Stats). columns_of (stats_at whole (places_among names (suc (length pre)) (columns_of ss)))) (sym (append_assoc pre (s ∷ []) ss))
    ∙ ap (λ (i : ℕ). columns_of (stats_at ((pre ++ s ∷ []) ++ ss) (places_among names i (columns_of ss)))) (sym (longer pre s))
    ∙ columns-at names (pre ++ s ∷ []) ss
    )
  where
    at : (t : Bool) → columns_of (stats_at (pre ++ s ∷ ss) (places_among names (suc (length pre)) (columns_of ss))) ≡ named_among names (columns_of ss) → columns_of (stats_at (pre ++ s ∷ ss) (if t then length pre ∷ places_among names (suc (length pre)) (columns_of ss) else places_among names (suc (length pre)) (columns_of ss))) ≡ (if t then column_of s ∷ named_among names (columns_of ss) else named_among names (columns_of ss))
    at true rest = rw (after pre s ss) (ap (λ (cs : Columns). column_of s ∷ cs) rest)
    at false rest = rest

differ-among : (names : List Text) (x : Text) (cs : Columns) → AllByRecursion (λ (y : Text). bytes_eq x y ≡ false) (names_of cs) → AllByRecursion (λ (y : Text). bytes_eq x y ≡ false) (names_of (named_among names cs))
differ-among names x [] h = tt
differ-among names x (c ∷ cs) h = at (has names c.0) (differ-among names x cs h.1)
  where
    at : (t : Bool) → AllByRecursion (λ (y : Text). bytes_eq x y ≡ false) (names_of (named_among names cs)) → AllByRecursion (λ (y : Text). bytes_eq x y ≡ false) (names_of (if t then c ∷ named_among names cs else named_among names cs))
    at true rest = (h.0, rest)
    at false rest = rest

-- columns among those of distinct names have distinct names
pub distinct-among : (names : List Text) (cs : Columns) → HasDistinctNames cs → HasDistinctNames (named_among names cs)
unfolding IsDistinct
distinct-among names [] h = tt
distinct-among names (c ∷ cs) h = at (has names c.0) (distinct-among names cs h.1) (differ-among names c.0 cs h.0)
  where
    at : (t : Bool) → HasDistinctNames (named_among names cs) → AllByRecursion (λ (y : Text). bytes_eq c.0 y ≡ false) (names_of (named_among names cs)) → HasDistinctNames (if t then c ∷ named_among names cs else named_among names cs)
    at true rest apart = (apart, rest)
    at false rest apart = rest

pub is-within : {X : Type 0} (xs : List X) (i : ℕ) → i < length xs → slice_get xs i ≡ None → ⊥
is-within [] i h e = omega arith
is-within (x ∷ xs) zero h e = cc
is-within (x ∷ xs) (suc i) h e = is-within xs i (omega arith) e

-- columns of some names, one by one, with their places
module _ (names : List Text) (cs : Columns) (i : ℕ) (name : Text) (dtype : DataType) (is : slice_get cs i ≡ Some (name, dtype)) where
  pub kept-column : (done : Columns) (a : Text) → HasDistinctNames cs → has names name ≡ true → a ≡ name → done ++ named_among names (drop i cs) ≡ named_among names cs → with_type done a dtype ++ named_among names (drop (i + 1) cs) ≡ named_among names cs
  kept-column done a distinct h e all =
      rw (e, add-one) (with_type-copied done (named_among names cs) name dtype (named_among names (drop (suc i) cs)) (named_among names (drop i cs)) (distinct-among names cs distinct) all
      (ap (named_among names) (drop-at cs i (name, dtype) is) ∙ ap (λ (t : Bool). if t then (name, dtype) ∷ named_among names (drop (suc i) cs) else named_among names (drop (suc i) cs)) h))

  pub kept-place : (done : List ℕ) → has names name ≡ true → done ++ places_among names i (drop i cs) ≡ places_among names 0 cs → (done ++ i ∷ []) ++ places_among names (i + 1) (drop (i + 1) cs) ≡ places_among names 0 cs
  kept-place done h all =
      append_assoc done (i ∷ []) (places_among names (i + 1) (drop (i + 1) cs))
      ∙ ap (λ (j : ℕ). done ++ i ∷ places_among names j (drop j cs)) (add-one i)
      ∙ ap (λ (ps : List ℕ). done ++ ps) (sym (ap (places_among names i) (drop-at cs i (name, dtype) is) ∙ ap (λ (t : Bool). if t then i ∷ places_among names (suc i) (drop (suc i) cs) else places_among names (suc i) (drop (suc i) cs)) h))
      ∙ all

  pub passed-column : (done : Columns) → has names name ≡ false → done ++ named_among names (drop i cs) ≡ named_among names cs → done ++ named_among names (drop (i + 1) cs) ≡ named_among names cs
  passed-column done h all =
      ap (λ (j : ℕ). done ++ named_among names (drop j cs)) (add-one i)
      ∙ ap (λ (x : Columns). done ++ x) (sym (ap (named_among names) (drop-at cs i (name, dtype) is) ∙ ap (λ (t : Bool). if t then (name, dtype) ∷ named_among names (drop (suc i) cs) else named_among names (drop (suc i) cs)) h))
      ∙ all

  pub passed-place : (done : List ℕ) → has names name ≡ false → done ++ places_among names i (drop i cs) ≡ places_among names 0 cs → done ++ places_among names (i + 1) (drop (i + 1) cs) ≡ places_among names 0 cs
  passed-place done h all =
      ap (λ (j : ℕ). done ++ places_among names j (drop j cs)) (add-one i)
      ∙ ap (λ (ps : List ℕ). done ++ ps) (sym (ap (places_among names i) (drop-at cs i (name, dtype) is) ∙ ap (λ (t : Bool). if t then i ∷ places_among names (suc i) (drop (suc i) cs) else places_among names (suc i) (drop (suc i) cs)) h))
      ∙ all

-- names that are taken each once leave the same columns
pub among-once : (names : List Text) (cs : Columns) → named_among (with_names [] names) cs ≡ named_among names cs
among-once names cs = ap (λ (test : Text → Bool). filter (λ (c : Text × DataType). test c.0) cs) (fun_ext (has-once names))

pub places-once : (names : List Text) (i : ℕ) (cs : Columns) → places_among (with_names [] names) i cs ≡ places_among names i cs
places-once names i [] = refl
places-once names i (c ∷ cs) =
    ap (λ (t : Bool). if t then i ∷ places_among (with_names [] names) (suc i) cs else places_among (with_names [] names) (suc i) cs) (has-once names c.0)
    ∙ ap (λ (ps : List ℕ). if has names c.0 then i ∷ ps else ps) (places-once names (suc i) cs)

-- all are there
pub among-done : (names : List Text) (cs : Columns) (i : ℕ) (done : Columns) → length cs ≤ i → done ++ named_among names (drop i cs) ≡ named_among names cs → done ≡ named_among names cs
among-done names cs i done h all = sym (append-nil done) ∙ ap (λ (x : Columns). done ++ named_among names x) (sym (drop_all i cs h)) ∙ all

pub places-done : (names : List Text) (cs : Columns) (i : ℕ) (done : List ℕ) → length cs ≤ i → done ++ places_among names i (drop i cs) ≡ places_among names 0 cs → done ≡ places_among names 0 cs
places-done names cs i done h all = sym (append-nil done) ∙ ap (λ (x : Columns). done ++ places_among names i x) (sym (drop_all i cs h)) ∙ all
