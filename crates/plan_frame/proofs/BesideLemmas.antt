-- Columns and frames beside one another.
use Rattle.std.proofs.Common.{◌≡◌, ℕ, Bool, true, false, cond, List, [], ◌∷◌, ◌++◌, fold, Option, Some, None, is_some, refl, sym, ap, ap₂, ◌∙◌, subst, ◌||◌, append-nil, append_assoc}
use Rattle.std.specs.List.{IsDistinct, range_with_len}
use Rattle.std.specs.Str.{bytes_eq}
use Rattle.std.proofs.lemmas.List.FromFn.{length-range_with_len}
use Rattle.plan_core.specs.Columns.{Columns, names_of, type_of}
use Rattle.plan_core.specs.Names.{has, AreDistinct}
use Rattle.plan_core.proofs.ColumnLemmas.{flip_false}
use Rattle.plan_core.specs.declared.data_type.DataType.{DataType}
use Rattle.plan_expr.specs.Leaves.{Name}
use Rattle.plan_frame.specs.Values.{Value}
use Rattle.plan_frame.specs.Beside.{in_a_row, with_new, side_by_side}
use Rattle.plan_frame.specs.Frames.{Frame, Column, HaveTypes, HasSchema, column_names, found, highest, levelled, with_new_column, beside, picked_columns}
use Rattle.plan_frame.proofs.NameSets.{named, names-append, some-type_of}
use Rattle.plan_frame.proofs.FrameLemmas.{rows_schema}
use Rattle.plan_frame.proofs.TurnLemmas.{HaveSchemas}
use Rattle.plan_frame.proofs.GroupLemmas.{all_back}

-- columns that have types

-- the names of a frame's columns
pub names-are : (h : ℕ) (cs : List Column) (s : Columns) → HaveTypes h cs s → column_names cs ≡ names_of s
names-are h [] [] k = refl
names-are h (c ∷ cs) (s ∷ ss) k = ap₂ (λ (a : Name) (l : List Name). a ∷ l) k.0 (names-are h cs ss k.3)
names-are h [] (s ∷ ss) k = absurd k
names-are h (c ∷ cs) [] k = absurd k

-- columns of one height beside others of it
pub types_beside : (h : ℕ) (cs ds : List Column) (s t : Columns) → HaveTypes h cs s → HaveTypes h ds t → HaveTypes h (cs ++ ds) (s ++ t)
types_beside h [] ds [] t k m = m
types_beside h (c ∷ cs) ds (x ∷ s) t k m = (k.0, k.1, k.2, types_beside h cs ds s t k.3 m)
types_beside h [] ds (x ∷ s) t k m = absurd k
types_beside h (c ∷ cs) ds [] t k m = absurd k

-- the columns of frames, each with as many rows
levelled_have : (h : ℕ) (fs : List Frame) (ss : List Columns) → HaveSchemas fs ss → HaveTypes h (levelled h fs) (in_a_row ss)
levelled_have h [] [] has = tt
levelled_have h (f ∷ fs) (s ∷ ss) has =
    types_beside h (picked_columns (range_with_len 0 h) f.columns) (levelled h fs) s (in_a_row ss)
    (subst (λ (n : ℕ). HaveTypes n (picked_columns (range_with_len 0 h) f.columns) s) (length-range_with_len 0 h) (rows_schema (range_with_len 0 h) f s has.0))
    (levelled_have h fs ss has.1)
levelled_have h [] (s ∷ ss) has = absurd has
levelled_have h (f ∷ fs) [] has = absurd has

-- and of each name the first
new_have : (h : ℕ) (ds cs : List Column) (t s : Columns) → HaveTypes h ds t → HaveTypes h cs s → HaveTypes h (fold with_new_column ds cs) (fold with_new t s)
new_have h ds [] t [] k m = k
new_have h ds (c ∷ cs) t (x ∷ s) k m = new_have h (with_new_column ds c) cs (with_new t x) s (pushed (has (column_names ds) c.name) (has (names_of t) x.0) (ap₂ has (names-are h ds t k) m.0)) m.3
  where
    pushed : (u v : Bool) → u ≡ v → HaveTypes h (cond u ds (ds ++ c ∷ [])) (cond v t (t ++ x ∷ []))
    pushed true true e = k
    pushed false false e = types_beside h ds (c ∷ []) t (x ∷ []) k (m.0, m.1, m.2, tt)
    pushed true false e = cc
    pushed false true e = cc
new_have h ds [] t (x ∷ s) k m = absurd m
new_have h ds (c ∷ cs) t [] k m = absurd m

-- frames beside one another have their columns beside one another
pub beside_has : (fs : List Frame) (ss : List Columns) → HaveSchemas fs ss → HasSchema (beside fs) (side_by_side ss)
beside_has fs ss has = new_have (highest fs) [] (levelled (highest fs) fs) [] (in_a_row ss) tt (levelled_have (highest fs) fs ss has)

-- what stands at a name

-- the first of two, the second where it is missing
abbrev pub or_else : {A : Type 0} → Option A → Option A → Option A
or_else None o = o
or_else (Some x) o = Some x

else_none : {A : Type 0} (o : Option A) → or_else o None ≡ o
else_none None = refl
else_none (Some x) = refl

else_assoc : {A : Type 0} (a b c : Option A) → or_else (or_else a b) c ≡ or_else a (or_else b c)
else_assoc None b c = refl
else_assoc (Some x) b c = refl

pub type_of-join : (s t : Columns) (a : Name) → type_of (s ++ t) a ≡ or_else (type_of s a) (type_of t a)
type_of-join [] t a = refl
type_of-join (c ∷ s) t a = at (bytes_eq a c.0) (type_of-join s t a)
  where
    at : (b : Bool) → type_of (s ++ t) a ≡ or_else (type_of s a) (type_of t a) → cond b (Some c.1) (type_of (s ++ t) a) ≡ or_else (cond b (Some c.1) (type_of s a)) (type_of t a)
    at true r = refl
    at false r = r

pub found-join : (cs ds : List Column) (a : Name) → found (cs ++ ds) a ≡ or_else (found cs a) (found ds a)
found-join [] ds a = refl
found-join (c ∷ cs) ds a = at (bytes_eq a c.name) (found-join cs ds a)
  where
    at : (b : Bool) → found (cs ++ ds) a ≡ or_else (found cs a) (found ds a) → cond b (Some c.values) (found (cs ++ ds) a) ≡ or_else (cond b (Some c.values) (found cs a)) (found ds a)
    at true r = refl
    at false r = r

-- a name that is there is found before what comes
known_first : {A : Type 0} (o p : Option A) → is_some o ≡ true → or_else o p ≡ o
known_first None p e = cc
known_first (Some x) p e = refl

type_of-new : (s cs : Columns) (a : Name) → type_of (fold with_new s cs) a ≡ or_else (type_of s a) (type_of cs a)
type_of-new s [] a = sym (else_none (type_of s a))
type_of-new s (c ∷ cs) a = type_of-new (with_new s c) cs a ∙ at (has (names_of s) c.0) refl
  where
    alone : (b : Bool) (o : Option DataType) → cond b (Some c.1) o ≡ or_else (cond b (Some c.1) None) o
    alone true o = refl
    alone false o = refl

    kept : (b : Bool) → bytes_eq a c.0 ≡ b → has (names_of s) c.0 ≡ true → or_else (type_of s a) (type_of cs a) ≡ or_else (type_of s a) (cond b (Some c.1) (type_of cs a))
    kept false e h = refl
    kept true e h =
        let there : is_some (type_of s a) ≡ true = some-type_of s a ∙ ap (has (names_of s)) (named a c.0 e) ∙ h in
        known_first (type_of s a) (type_of cs a) there ∙ sym (known_first (type_of s a) (Some c.1) there)

    at : (u : Bool) → has (names_of s) c.0 ≡ u → or_else (type_of (cond u s (s ++ c ∷ [])) a) (type_of cs a) ≡ or_else (type_of s a) (cond (bytes_eq a c.0) (Some c.1) (type_of cs a))
    at true h = kept (bytes_eq a c.0) refl h
    at false h =
        ap (λ (o : Option DataType). or_else o (type_of cs a)) (type_of-join s (c ∷ []) a)
        ∙ else_assoc (type_of s a) (cond (bytes_eq a c.0) (Some c.1) None) (type_of cs a)
        ∙ ap (or_else (type_of s a)) (sym (alone (bytes_eq a c.0) (type_of cs a)))

-- beside one another columns have the types that they have in a row
pub type_of-beside : (ss : List Columns) (a : Name) → type_of (side_by_side ss) a ≡ type_of (in_a_row ss) a
type_of-beside ss a = type_of-new [] (in_a_row ss) a

some-found : (cs : List Column) (a : Name) → is_some (found cs a) ≡ has (column_names cs) a
some-found [] a = refl
some-found (c ∷ cs) a = at (bytes_eq a c.name) (some-found cs a)
  where
    at : (b : Bool) → is_some (found cs a) ≡ has (column_names cs) a → is_some (cond b (Some c.values) (found cs a)) ≡ (b || has (column_names cs) a)
    at true r = refl
    at false r = r

found-new : (ds cs : List Column) (a : Name) → found (fold with_new_column ds cs) a ≡ or_else (found ds a) (found cs a)
found-new ds [] a = sym (else_none (found ds a))
found-new ds (c ∷ cs) a = found-new (with_new_column ds c) cs a ∙ at (has (column_names ds) c.name) refl
  where
    alone : (b : Bool) (o : Option (List Value)) → cond b (Some c.values) o ≡ or_else (cond b (Some c.values) None) o
    alone true o = refl
    alone false o = refl

    kept : (b : Bool) → bytes_eq a c.name ≡ b → has (column_names ds) c.name ≡ true → or_else (found ds a) (found cs a) ≡ or_else (found ds a) (cond b (Some c.values) (found cs a))
    kept false e h = refl
    kept true e h =
        let there : is_some (found ds a) ≡ true = some-found ds a ∙ ap (has (column_names ds)) (named a c.name e) ∙ h in
        known_first (found ds a) (found cs a) there ∙ sym (known_first (found ds a) (Some c.values) there)

    at : (u : Bool) → has (column_names ds) c.name ≡ u → or_else (found (cond u ds (ds ++ c ∷ [])) a) (found cs a) ≡ or_else (found ds a) (cond (bytes_eq a c.name) (Some c.values) (found cs a))
    at true h = kept (bytes_eq a c.name) refl h
    at false h =
        ap (λ (o : Option (List Value)). or_else o (found cs a)) (found-join ds (c ∷ []) a)
        ∙ else_assoc (found ds a) (cond (bytes_eq a c.name) (Some c.values) None) (found cs a)
        ∙ ap (or_else (found ds a)) (sym (alone (bytes_eq a c.name) (found cs a)))

-- and so have frames
pub found-beside : (fs : List Frame) (a : Name) → found (beside fs).columns a ≡ found (levelled (highest fs) fs) a
found-beside fs a = found-new [] (levelled (highest fs) fs) a

-- columns whose names differ are in a row as they are beside one another

-- names before one that differs from all, and the same names with it among those before
moved : (xs : List Name) (a : Name) (ys : List Name) → AreDistinct (xs ++ a ∷ ys) → (has xs a ≡ false) × AreDistinct ((xs ++ a ∷ []) ++ ys)
unfolding IsDistinct
moved xs a ys d = (apart xs d, subst AreDistinct (sym (append_assoc xs (a ∷ []) ys)) d)
  where
    apart : (zs : List Name) → AreDistinct (zs ++ a ∷ ys) → has zs a ≡ false
    apart [] e = refl
    apart (z ∷ zs) e = ap₂ (λ (u v : Bool). u || v) (flip_false z a (all_back (λ (y : Name). bytes_eq z y ≡ false) zs (a ∷ ys) e.0).0) (apart zs e.1)

new-distinct : (s cs : Columns) → AreDistinct (names_of s ++ names_of cs) → fold with_new s cs ≡ s ++ cs
new-distinct s [] d = sym (append-nil s)
new-distinct s (c ∷ cs) d =
    let p = moved (names_of s) c.0 (names_of cs) d in
    ap (λ (b : Bool). fold with_new (cond b s (s ++ c ∷ [])) cs) p.0
    ∙ new-distinct (s ++ c ∷ []) cs (subst AreDistinct (ap (λ (l : List Name). l ++ names_of cs) (sym (names-append s (c ∷ [])))) p.1)
    ∙ append_assoc s (c ∷ []) cs

pub beside-distinct : (ss : List Columns) → AreDistinct (names_of (in_a_row ss)) → side_by_side ss ≡ in_a_row ss
beside-distinct ss d = new-distinct [] (in_a_row ss) d
