-- Frames in other shapes have the columns of these shapes.
use Rattle.std.proofs.Common.{◌≡◌, ℕ, ◌*◌, Bool, true, false, cond, List, [], ◌∷◌, ◌++◌, length, length-append, Some, refl, sym, ap₂, subst, arith, map, ap, pos}
use Rattle.std.specs.List.{AllByRecursion, flat_map}
use Rattle.plan_core.specs.declared.data_type.DataType.{DataType}
use Rattle.plan_core.specs.declared.data_type.DataType.TheVariants.{Int64, String}
use Rattle.plan_core.specs.Columns.{Columns, names_of, type_of, with_type, plain, HasDistinctNames}
use Rattle.plan_core.specs.Names.{has, with_names, AreDistinct}
use Rattle.plan_expr.specs.Leaves.{Name}
use Rattle.plan_frame.specs.Reshaped.{type_or, columns_at, renamed_columns, exploded_columns, item_type, alone, items, exploded_rows, exploded_values, exploded}
use Rattle.plan_frame.specs.Values.{Value, text, AllOf, whole, Single, no_single, single_whole, single_text, single_truth, null, truth, listed, IsSingleOf, IsOf}
use Rattle.plan_frame.specs.Frames.{Frame, Column, column_names, column_or, table_columns, HaveTypes, HasSchema, row}
use Rattle.plan_frame.proofs.FrameLemmas.{all_append, holds_or, schema_holds, weaker, length-map, row_of}
use Rattle.std.specs.Int.{w64, int_wrap}
use Rattle.std.proofs.Math.Path.{fun_ext}
use Rattle.plan_core.specs.declared.data_type.DataType.TheVariants as types
use Rattle.plan_core.specs.declared.data_type.PlainType.{PlainType}
use Rattle.plan_core.specs.declared.data_type.PlainType.TheVariants as plains
use Rattle.plan_core.proofs.CopyLemmas.{with_type-copied}
use Rattle.plan_frame.proofs.NameSets.{has-once}

-- lists one after another

flat_length : {X Y : Type 0} (f : X → List Y) (h : ℕ) (xs : List X) → AllByRecursion (λ (x : X). length (f x) ≡ h) xs → length (flat_map f xs) ≡ length xs * h
flat_length f h [] k = omega arith
flat_length f h (x ∷ xs) k =
    let here = k.0 in
    let later = flat_length f h xs k.1 in
    omega (arith, length-append (f x) (flat_map f xs))

flat_of : {X : Type 0} (t : DataType) (f : X → List Value) (xs : List X) → AllByRecursion (λ (x : X). AllOf t (f x)) xs → AllOf t (flat_map f xs)
flat_of t f [] k = tt
flat_of t f (x ∷ xs) k = all_append t (f x) (flat_map f xs) k.0 (flat_of t f xs k.1)

-- columns

columns_named : (h : ℕ) (cs : List Column) (s : Columns) → HaveTypes h cs s → column_names cs ≡ names_of s
columns_named h [] [] k = refl
columns_named h (c ∷ cs) (s ∷ ss) k = ap₂ (λ (a : Name) (l : List Name). a ∷ l) k.0 (columns_named h cs ss k.3)
columns_named h [] (s ∷ ss) k = absurd k
columns_named h (c ∷ cs) [] k = absurd k

-- the columns of a frame have the names of its schema
pub names-shown : (g : Frame) (s : Columns) → HasSchema g s → column_names g.columns ≡ names_of s
names-shown g s k = columns_named g.height g.columns s k

pub have_append : (h : ℕ) (cs ds : List Column) (s t : Columns) → HaveTypes h cs s → HaveTypes h ds t → HaveTypes h (cs ++ ds) (s ++ t)
have_append h [] ds [] t k l = l
have_append h (c ∷ cs) ds (s ∷ ss) t k l = (k.0, k.1, k.2, have_append h cs ds ss t k.3 l)
have_append h [] ds (s ∷ ss) t k l = absurd k
have_append h (c ∷ cs) ds [] t k l = absurd k

-- a column of so many rows is of a type
pub record IsFilled (t : DataType) (h : ℕ) (vs : List Value) : Type 0 where
  pub long : length vs ≡ h
  pub typed : AllOf t vs

pub tables_have : (h : ℕ) (s : Columns) (v : Name → List Value) (names : List Name) → AllByRecursion (λ (a : Name). IsFilled (type_or s a) h (v a)) names → HaveTypes h (table_columns names v) (columns_at s names)
tables_have h s v [] k = tt
tables_have h s v (a ∷ names) k = (refl, k.0.long, k.0.typed, tables_have h s v names k.1)

-- columns of one type one after another
pub flat_filled : (t : DataType) (h : ℕ) (f : Name → List Value) (names : List Name) → AllByRecursion (λ (a : Name). IsFilled t h (f a)) names → IsFilled t (length names * h) (flat_map f names)
flat_filled t h f names k = record {
  long = flat_length f h names (weaker (λ (a : Name). IsFilled t h (f a)) (λ (a : Name). length (f a) ≡ h) names (λ a i. i.long) k);
  typed = flat_of t f names (weaker (λ (a : Name). IsFilled t h (f a)) (λ (a : Name). AllOf t (f a)) names (λ a i. i.typed) k);
}

pub each_of : {X : Type 0} (P : X → Type 0) (xs : List X) → ((x : X) → P x) → AllByRecursion P xs
each_of P [] by = tt
each_of P (x ∷ xs) by = (by x, each_of P xs by)

pub typed_filled : (g : Frame) (s : Columns) (a : Name) (t : DataType) → HasSchema g s → type_of s a ≡ Some t → IsFilled t g.height (column_or g a)
typed_filled g s a t k e = let h = holds_or g (a, t) (schema_holds g s a t k e) in record { long = h.0; typed = h.1 }

-- columns under other names, and numbers of rows

pub renamed_have : (now : Name → Name) (h : ℕ) (cs : List Column) (s : Columns) → HaveTypes h cs s → HaveTypes h (map (λ (c : Column). record { name = now c.name; values = c.values }) cs) (renamed_columns now s)
renamed_have now h [] [] k = tt
renamed_have now h (c ∷ cs) (s ∷ ss) k = (ap now k.0, k.1, k.2, renamed_have now h cs ss k.3)
renamed_have now h [] (s ∷ ss) k = absurd k
renamed_have now h (c ∷ cs) [] k = absurd k

pub whole_numbers : (ns : List ℕ) → AllOf Int64 (map (λ (i : ℕ). whole (int_wrap w64 (pos i))) ns)
whole_numbers [] = tt
whole_numbers (n ∷ ns) = (tt, whole_numbers ns)

-- values of lists

alone_of : (t : PlainType) (v : Single) → IsSingleOf t v → IsOf (plain t) (alone v)
alone_of plains.Int64 no_single h = tt
alone_of plains.Int64 (single_whole n) h = tt
alone_of plains.Int64 (single_text s) h = absurd h
alone_of plains.Int64 (single_truth b) h = absurd h
alone_of plains.String no_single h = tt
alone_of plains.String (single_whole n) h = absurd h
alone_of plains.String (single_text s) h = tt
alone_of plains.String (single_truth b) h = absurd h
alone_of plains.Boolean no_single h = tt
alone_of plains.Boolean (single_whole n) h = absurd h
alone_of plains.Boolean (single_text s) h = absurd h
alone_of plains.Boolean (single_truth b) h = tt

all_alone : (t : PlainType) (vs : List Single) → AllByRecursion (IsSingleOf t) vs → AllOf (plain t) (map alone vs)
all_alone t [] h = tt
all_alone t (v ∷ vs) h = (alone_of t v h.0, all_alone t vs h.1)

items_of : (t : DataType) (v : Value) → IsOf t v → AllOf (item_type t) (items v)
items_of t null h = tt
items_of t (whole n) h = tt
items_of t (text s) h = tt
items_of t (truth b) h = tt
items_of types.Int64 (listed vs) h = absurd h
items_of types.String (listed vs) h = absurd h
items_of types.Boolean (listed vs) h = absurd h
items_of (types.List t) (listed vs) h = all_alone t vs h

-- columns taken apart

values_of : (b : Bool) (t : DataType) (rows : List (ℕ × ℕ)) (vs : List Value) → AllOf t vs → AllOf (cond b (item_type t) t) (exploded_values b rows vs)
values_of true t [] vs h = tt
values_of true t (p ∷ rows) vs h = (row_of (item_type t) (items (row vs p.0)) p.1 (items_of t (row vs p.0) (row_of t vs p.0 h)), values_of true t rows vs h)
values_of false t [] vs h = tt
values_of false t (p ∷ rows) vs h = (row_of t vs p.0 h, values_of false t rows vs h)

length-values : (b : Bool) (rows : List (ℕ × ℕ)) (vs : List Value) → length (exploded_values b rows vs) ≡ length rows
length-values true rows vs = length-map (λ (p : ℕ × ℕ). row (items (row vs p.0)) p.1) rows
length-values false rows vs = length-map (λ (p : ℕ × ℕ). row vs p.0) rows

columns_have : (names : List Name) (rows : List (ℕ × ℕ)) (h : ℕ) (cs : List Column) (s : Columns) → HaveTypes h cs s → HaveTypes (length rows) (map (λ (c : Column). record { name = c.name; values = exploded_values (has names c.name) rows c.values }) cs) (exploded_columns names s)
columns_have names rows h [] [] k = tt
columns_have names rows h (c ∷ cs) (s ∷ ss) k = (
  k.0,
  length-values (has names c.name) rows c.values,
  subst (λ (a : Name). AllOf (cond (has names a) (item_type s.1) s.1) (exploded_values (has names c.name) rows c.values)) k.0 (values_of (has names c.name) s.1 rows c.values k.2),
  columns_have names rows h cs ss k.3,
)
columns_have names rows h [] (s ∷ ss) k = absurd k
columns_have names rows h (c ∷ cs) [] k = absurd k

-- what an explode makes of a frame has its columns
pub exploded_has : (names : List Name) (s : Columns) (g : Frame) → HasSchema g s → HasSchema (exploded names g) (exploded_columns names s)
exploded_has names s g k = columns_have names (exploded_rows names g) g.height g.columns s k

pub names-exploded : (names : List Name) (s : Columns) → names_of (exploded_columns names s) ≡ names_of s
names-exploded names [] = refl
names-exploded names (c ∷ s) = ap (λ (l : List Name). c.0 ∷ l) (names-exploded names s)

-- columns as they are made

-- it is the same to take apart each column once
pub apart-once : (names : List Name) (s : Columns) → exploded_columns (with_names [] names) s ≡ exploded_columns names s
apart-once names s = ap (λ (test : Name → Bool). map (λ (c : Name × DataType). (c.0, cond (test c.0) (item_type c.1) c.1)) s) (fun_ext (has-once names))

-- a column more
pub exploded-next : (names : List Name) (made s : Columns) (a : Name) (d : DataType) (rest left : Columns) → HasDistinctNames s → made ++ exploded_columns names left ≡ exploded_columns names s → left ≡ (a, d) ∷ rest → with_type made a (cond (has names a) (item_type d) d) ++ exploded_columns names rest ≡ exploded_columns names s
exploded-next names made s a d rest left once so_far here =
    with_type-copied made (exploded_columns names s) a (cond (has names a) (item_type d) d) (exploded_columns names rest) (exploded_columns names left)
    (subst AreDistinct (sym (names-exploded names s)) once) so_far (ap (exploded_columns names) here)
