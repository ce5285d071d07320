-- How lists of names and columns grow, one name after another.
use Rattle.std.proofs.Common.{◌≡◌, ℕ, zero, suc, ◌+◌, ◌<◌, Bool, true, false, cond, List, [], ◌∷◌, ◌++◌, take, length, Option, Some, None, option_map, refl, sym, ap, ◌∙◌, arith, add-one, append-nil, subst}
use Rattle.std.specs.List.{slice_get, filter, cons_option, IsDistinct, AllByRecursion}
use Rattle.std.specs.Str.{bytes_eq}
use Rattle.std.proofs.lemmas.List.{take-map}
use Rattle.std.proofs.lemmas.List.Elements.{filter-append, filter_map-append}
use Rattle.std.proofs.lemmas.List.Sums.{fold-append}
use Rattle.std.proofs.lemmas.Option.{slice_get-map}
use Rattle.plan_core.specs.Columns.{Columns, HasDistinctNames, names_of, type_of, with_type}
use Rattle.plan_core.specs.Names.{AreDistinct, has, with_name, with_names}
use Rattle.plan_core.specs.declared.data_type.DataType.{DataType}
use Rattle.plan_core.proofs.ColumnLemmas.{flip_false, with_type-last}
use Rattle.plan_expr.specs.Leaves.{Name}
use Rattle.plan_pruned.specs.Pruned.{typed_name, typed_names}

-- the items before the next place, with the item at this one
pub take-next : {A : Type 0} (xs : List A) (i : ℕ) (x : A) → slice_get xs i ≡ Some x → take (i + 1) xs ≡ take i xs ++ x ∷ []
take-next {A} xs i x e = rw (add-one i) (go xs i e)
  where
    go : (ys : List A) (j : ℕ) → slice_get ys j ≡ Some x → take (suc j) ys ≡ take j ys ++ x ∷ []
    go [] j e = cc
    go (y ∷ ys) zero e = let q : y ≡ x = cc in rw q refl
    go (y ∷ ys) (suc j) e = ap (λ (l : List A). y ∷ l) (go ys j e)

pub not_past : {A : Type 0} (xs : List A) (i : ℕ) → slice_get xs i ≡ None → i < length xs → ⊥
not_past [] i e h = omega arith
not_past (x ∷ xs) zero e h = cc
not_past (x ∷ xs) (suc i) e h = not_past xs i e (omega arith)

-- the name is none of the names
abbrev pub Differs : Name → List Name → Type 0
Differs a names = AllByRecursion (λ (y : Name). bytes_eq a y ≡ false) names

later_differs : (x : Name) (names : List Name) (i : ℕ) (a : Name) → Differs x names → slice_get names i ≡ Some a → bytes_eq x a ≡ false
later_differs x [] i a h e = cc
later_differs x (b ∷ names) zero a h e = let q : b ≡ a = cc in rw (← q) h.0
later_differs x (b ∷ names) (suc i) a h e = later_differs x names i a h.1 e

-- a name is none of those before it
pub before_differ : (names : List Name) (i : ℕ) (a : Name) → AreDistinct names → slice_get names i ≡ Some a → Differs a (take i names)
unfolding IsDistinct
before_differ [] i a h e = cc
before_differ (b ∷ names) zero a h e = tt
before_differ (b ∷ names) (suc i) a h e = (flip_false b a (later_differs b names i a h.0 e), before_differ names i a h.1 e)

pub has-differs : (names : List Name) (a : Name) → Differs a names → has names a ≡ false
has-differs [] a h = refl
has-differs (b ∷ names) a h = rw h.0 (has-differs names a h.1)

pub with_name-last : (names : List Name) (a : Name) → Differs a names → with_name names a ≡ names ++ a ∷ []
with_name-last names a h = rw (has-differs names a h) refl

pub name_at : (cs : Columns) (i : ℕ) (a : Name) (d : DataType) → slice_get cs i ≡ Some (a, d) → slice_get (names_of cs) i ≡ Some a
name_at cs i a d e = slice_get-map (λ (c : Name × DataType). c.0) cs i ∙ ap (option_map (λ (c : Name × DataType). c.0)) e

-- the columns that pass a test, one after another
differs-filter : (p : Name × DataType → Bool) (cs : Columns) (a : Name) → Differs a (names_of cs) → Differs a (names_of (filter p cs))
differs-filter p [] a h = tt
differs-filter p (c ∷ cs) a h = go (p c) (differs-filter p cs a h.1)
  where
    go : (b : Bool) → Differs a (names_of (filter p cs)) → Differs a (names_of (cond b (c ∷ filter p cs) (filter p cs)))
    go true rest = (h.0, rest)
    go false rest = rest

pub filter-next : (p : Name × DataType → Bool) (cs : Columns) (i : ℕ) (a : Name) (d : DataType) → HasDistinctNames cs → slice_get cs i ≡ Some (a, d) → p (a, d) ≡ true → with_type (filter p (take i cs)) a d ≡ filter p (take (i + 1) cs)
filter-next p cs i a d h e good =
    let before : Differs a (names_of (take i cs)) = subst (λ (l : List Name). Differs a l) (take-map (λ (c : Name × DataType). c.0) i cs) (before_differ (names_of cs) i a h (name_at cs i a d e)) in
    let one : filter p ((a, d) ∷ []) ≡ (a, d) ∷ [] = rw good refl in
    with_type-last (filter p (take i cs)) a d (differs-filter p (take i cs) a before)
    ∙ ap (λ (l : Columns). filter p (take i cs) ++ l) (sym one)
    ∙ sym (filter-append p (take i cs) ((a, d) ∷ []))
    ∙ ap (filter p) (sym (take-next cs i (a, d) e))

pub filter-skip : (p : Name × DataType → Bool) (cs : Columns) (i : ℕ) (a : Name) (d : DataType) → slice_get cs i ≡ Some (a, d) → p (a, d) ≡ false → filter p (take i cs) ≡ filter p (take (i + 1) cs)
filter-skip p cs i a d e bad =
    let one : filter p ((a, d) ∷ []) ≡ [] = rw bad refl in
    sym (append-nil (filter p (take i cs)))
    ∙ ap (λ (l : Columns). filter p (take i cs) ++ l) (sym one)
    ∙ sym (filter-append p (take i cs) ((a, d) ∷ []))
    ∙ ap (filter p) (sym (take-next cs i (a, d) e))

-- the columns of names, one after another
differs-typed : (s : Columns) (names : List Name) (a : Name) → Differs a names → Differs a (names_of (typed_names s names))
differs-typed s [] a h = tt
differs-typed s (b ∷ names) a h = go (type_of s b) (differs-typed s names a h.1)
  where
    go : (o : Option DataType) → Differs a (names_of (typed_names s names)) → Differs a (names_of (cons_option (option_map (λ d. (b, d)) o) (typed_names s names)))
    go None rest = rest
    go (Some d) rest = (h.0, rest)

pub typed-next : (s : Columns) (names : List Name) (i : ℕ) (a : Name) (d : DataType) → AreDistinct names → slice_get names i ≡ Some a → type_of s a ≡ Some d → with_type (typed_names s (take i names)) a d ≡ typed_names s (take (i + 1) names)
typed-next s names i a d h e is =
    let one : typed_names s (a ∷ []) ≡ (a, d) ∷ [] = rw is refl in
    with_type-last (typed_names s (take i names)) a d (differs-typed s (take i names) a (before_differ names i a h e))
    ∙ ap (λ (l : Columns). typed_names s (take i names) ++ l) (sym one)
    ∙ sym (filter_map-append (typed_name s) (take i names) (a ∷ []))
    ∙ ap (typed_names s) (sym (take-next names i a e))

pub typed-skip : (s : Columns) (names : List Name) (i : ℕ) (a : Name) → slice_get names i ≡ Some a → type_of s a ≡ None → typed_names s (take i names) ≡ typed_names s (take (i + 1) names)
typed-skip s names i a e is =
    let one : typed_names s (a ∷ []) ≡ [] = rw is refl in
    sym (append-nil (typed_names s (take i names)))
    ∙ ap (λ (l : Columns). typed_names s (take i names) ++ l) (sym one)
    ∙ sym (filter_map-append (typed_name s) (take i names) (a ∷ []))
    ∙ ap (typed_names s) (sym (take-next names i a e))

-- one list of names after another
pub with_names-append : (names xs ys : List Name) → with_names names (xs ++ ys) ≡ with_names (with_names names xs) ys
with_names-append names xs ys = fold-append with_name names xs ys
