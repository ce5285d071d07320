-- Columns that are put behind others, and names that come twice.
use Rattle.std.proofs.Common.{◌≡◌, ◌∙◌, ◌++◌, ◌∷◌, [], ◌||◌, List, ℕ, zero, suc, Bool, true, false, is_some, Some, take, slice_get, ◌<◌, refl, sym, ap, append_assoc, arith}
use Rattle.std.specs.Str.{bytes_eq}
use Rattle.std.specs.List.{IsDistinct, AllByRecursion}
use Rattle.std.proofs.lemmas.List.{take-take}
use Rattle.std.proofs.lemmas.Slice.Eq.{bytes_eq-Decides}
use Rattle.plan_core.specs.declared.data_type.DataType.{DataType}
use Rattle.plan_core.specs.Columns.{Columns, HasDistinctNames, names_of, type_of, with_type}
use Rattle.plan_core.specs.Names.{has}
use Rattle.plan_options.specs.Schemas.{SharesName, RepeatsFirst, all_columns}
use Rattle.plan_core.proofs.ColumnLemmas.{flip_false}

-- a name that has a type is among the names
has-typed : (cs : Columns) (name : List ℕ) → is_some (type_of cs name) ≡ true → has (names_of cs) name ≡ true
has-typed [] name h = h
has-typed (c ∷ cs) name h = go (has-typed cs name) (bytes_eq name c.0) refl
  where
    go : (is_some (type_of cs name) ≡ true → has (names_of cs) name ≡ true) → (b : Bool) → bytes_eq name c.0 ≡ b → has (names_of (c ∷ cs)) name ≡ true
    go rest true q = rw q refl
    go rest false q = rw q (rest (rw q at h))

-- a name that has no type goes last
with_type-absent : (cs : Columns) (name : List ℕ) (d : DataType) → is_some (type_of cs name) ≡ false → with_type cs name d ≡ cs ++ (name, d) ∷ []
with_type-absent [] name d h = refl
with_type-absent (c ∷ cs) name d h = go (with_type-absent cs name d) (bytes_eq name c.0) refl
  where
    go : (is_some (type_of cs name) ≡ false → with_type cs name d ≡ cs ++ (name, d) ∷ []) → (b : Bool) → bytes_eq name c.0 ≡ b → with_type (c ∷ cs) name d ≡ (c ∷ cs) ++ (name, d) ∷ []
    go rest true q = let absent = rw q at h in cc
    go rest false q = rw q (ap (λ (x : Columns). c ∷ x) (rest (rw q at h)))

-- a name is among the columns, or else among those behind them
has-append : (cs ds : Columns) (name : List ℕ) → has (names_of (cs ++ ds)) name ≡ (has (names_of cs) name || has (names_of ds) name)
has-append [] ds name = refl
has-append (c ∷ cs) ds name = go (has-append cs ds name) (bytes_eq name c.0)
  where
    go : has (names_of (cs ++ ds)) name ≡ (has (names_of cs) name || has (names_of ds) name) → (b : Bool) → (b || has (names_of (cs ++ ds)) name) ≡ ((b || has (names_of cs) name) || has (names_of ds) name)
    go rest true = refl
    go rest false = rest

differs : (x : List ℕ) (cs : Columns) (name : List ℕ) → AllByRecursion (λ (y : List ℕ). bytes_eq x y ≡ false) (names_of cs) → has (names_of cs) name ≡ true → bytes_eq name x ≡ false
differs x [] name h there = cc
differs x (c ∷ cs) name h there = go (differs x cs name h.1) (bytes_eq name c.0) refl
  where
    go : (has (names_of cs) name ≡ true → bytes_eq name x ≡ false) → (b : Bool) → bytes_eq name c.0 ≡ b → bytes_eq name x ≡ false
    go rest true q = let same : name ≡ c.0 = (bytes_eq-Decides name c.0).0 q in flip_false x name (ap (λ (y : List ℕ). bytes_eq x y) same ∙ h.0)
    go rest false q = rest (rw q at there)

-- a name of the back is among all names
has-back : (cs ds : Columns) (name : List ℕ) → has (names_of ds) name ≡ true → has (names_of (cs ++ ds)) name ≡ true
has-back [] ds name there = there
has-back (c ∷ cs) ds name there = rw (has-back cs ds name there) (or_true (bytes_eq name c.0))
  where
    or_true : (b : Bool) → (b || true) ≡ true
    or_true true = refl
    or_true false = refl

-- of columns whose names are distinct the front has no name of the back
has-front : (cs ds : Columns) (name : List ℕ) → HasDistinctNames (cs ++ ds) → has (names_of ds) name ≡ true → has (names_of cs) name ≡ false
unfolding IsDistinct
has-front [] ds name h there = refl
has-front (c ∷ cs) ds name h there =
    rw (differs c.0 (cs ++ ds) name h.0 (has-back cs ds name there)) (has-front cs ds name h.1 there)

distinct-front : (cs ds : Columns) → HasDistinctNames (cs ++ ds) → HasDistinctNames cs
unfolding IsDistinct
distinct-front [] ds h = tt
distinct-front (c ∷ cs) ds h = (differ_front cs h.0, distinct-front cs ds h.1)
  where
    differ_front : (cs : Columns) → AllByRecursion (λ (y : List ℕ). bytes_eq c.0 y ≡ false) (names_of (cs ++ ds)) → AllByRecursion (λ (y : List ℕ). bytes_eq c.0 y ≡ false) (names_of cs)
    differ_front [] h = tt
    differ_front (b ∷ cs) h = (h.0, differ_front cs h.1)

has-here : (name : List ℕ) (d : DataType) (rest : Columns) → has (names_of ((name, d) ∷ rest)) name ≡ true
has-here name d rest = rw ((bytes_eq-Decides name name).1 refl) refl

-- a column whose name is there, and no name of those that were added up to it, has a name of those before
pub found : (old merged done left schema rest : Columns) (name : List ℕ) (d : DataType) → merged ≡ old ++ done → done ++ left ≡ schema → left ≡ (name, d) ∷ rest → HasDistinctNames schema → is_some (type_of merged name) ≡ true → SharesName schema old
found old merged done left schema rest name d m e f h typed =
    let whole : schema ≡ done ++ (name, d) ∷ rest = sym e ∙ ap (λ (x : Columns). done ++ x) f in
    let distinct : HasDistinctNames (done ++ (name, d) ∷ rest) = rw whole at h in
    let is_there : has (names_of old) name || has (names_of done) name ≡ true = sym (has-append old done name) ∙ has-typed (old ++ done) name (rw m at typed) in
    let not_done : has (names_of done) name ≡ false = has-front done ((name, d) ∷ rest) name distinct (has-here name d rest) in
    (name, rw whole (has-back done ((name, d) ∷ rest) name (has-here name d rest)), go (has (names_of old) name) (rw not_done at is_there))
  where
    go : (b : Bool) → (b || false) ≡ true → b ≡ true
    go true q = refl
    go false q = q

-- a column whose name is not there goes behind those that were added up to it
pub added : (old merged new done left schema rest : Columns) (name : List ℕ) (d : DataType) → merged ≡ old ++ done → done ++ left ≡ schema → left ≡ (name, d) ∷ rest → is_some (type_of merged name) ≡ false → new ≡ with_type merged name d → (x : Columns) × (new ≡ old ++ x) × (x ++ rest ≡ schema)
added old merged new done left schema rest name d m e f absent n = (
  done ++ (name, d) ∷ [],
  n ∙ with_type-absent merged name d absent ∙ ap (λ (x : Columns). x ++ (name, d) ∷ []) m ∙ append_assoc old done ((name, d) ∷ []),
  append_assoc done ((name, d) ∷ []) rest ∙ ap (λ (x : Columns). done ++ x) (sym f) ∙ e,
)

-- columns that share a name with others are not distinct from them
pub shares-distinct : (cs ds rest : Columns) → SharesName ds cs → HasDistinctNames (cs ++ (ds ++ rest)) → ⊥
shares-distinct cs ds rest shares h =
    let behind : has (names_of (ds ++ rest)) shares.0 ≡ true = has-append ds rest shares.0 ∙ rw shares.1 refl in
    let not_front = has-front cs (ds ++ rest) shares.0 h behind in
    let front = shares.2 in
    cc

-- the columns of a schema stand between those before and those after it
all_columns-split : (schemas : List Columns) (place : ℕ) (s : Columns) → slice_get schemas place ≡ Some s → (rest : Columns) × (all_columns schemas ≡ all_columns (take place schemas) ++ (s ++ rest))
all_columns-split [] place s h = cc
all_columns-split (t ∷ schemas) zero s h = let same : t ≡ s = cc in (all_columns schemas, ap (λ (x : Columns). x ++ all_columns schemas) same)
all_columns-split (t ∷ schemas) (suc place) s h =
    let below = all_columns-split schemas place s h in
    (below.0, ap (λ (x : Columns). t ++ x) below.1 ∙ sym (append_assoc t (all_columns (take place schemas)) (s ++ below.0)))

-- where a schema has a name of one before it, some name comes twice
pub repeats-distinct : (schemas : List Columns) (place : ℕ) (s : Columns) → slice_get schemas place ≡ Some s → SharesName s (all_columns (take place schemas)) → HasDistinctNames (all_columns schemas) → ⊥
repeats-distinct schemas place s h shares distinct =
    let split = all_columns-split schemas place s h in
    shares-distinct (all_columns (take place schemas)) s split.0 shares (rw split.1 at distinct)

slice_get-take : {X : Type 0} (xs : List X) (i j : ℕ) → i < j → slice_get (take j xs) i ≡ slice_get xs i
slice_get-take xs i zero h = elim h [ ]
slice_get-take [] i (suc j) h = refl
slice_get-take (x ∷ xs) zero (suc j) h = refl
slice_get-take (x ∷ xs) (suc i) (suc j) h = slice_get-take xs i j (omega arith)

-- no schema before the first that repeats a name repeats one
not_before : (schemas : List Columns) (i j : ℕ) → RepeatsFirst schemas i → RepeatsFirst schemas j → i < j → ⊥
not_before schemas i j first second h =
    repeats-distinct (take j schemas) i first.0 (slice_get-take schemas i j h ∙ first.1) (rw (take-take i j schemas (omega arith)) first.2) second.3

pub RepeatsFirst-one : (schemas : List Columns) (i j : ℕ) → RepeatsFirst schemas i → RepeatsFirst schemas j → i ≡ j
RepeatsFirst-one schemas i j first second =
    let before = not_before schemas i j first second in
    let after = not_before schemas j i second first in
    grind arith
