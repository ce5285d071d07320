-- Frames and their columns: what rows, tables and frames one after another have.
use Rattle.std.proofs.Common.{◌≡◌, ℕ, zero, suc, Bool, true, false, cond, List, [], ◌∷◌, ◌++◌, map, length, Option, Some, None, unwrap_or, replicate, option_map, refl, sym, ap, ap₂, ◌∙◌, subst, ⊎_elim, length-append, arith}
use Rattle.std.specs.List.{AllByRecursion}
use Rattle.std.specs.Str.{bytes_eq}
use Rattle.plan_core.specs.declared.data_type.DataType.{DataType}
use Rattle.plan_core.specs.declared.data_type.DataType.TheVariants as types
use Rattle.plan_core.specs.declared.data_type.PlainType.TheVariants as plains
use Rattle.plan_core.specs.Columns.{Columns, names_of, type_of, with_type}
use Rattle.plan_core.specs.Names.{has}
use Rattle.plan_expr.specs.Leaves.{Name}
use Rattle.plan_frame.specs.Exprs.{is_type}
use Rattle.plan_expr.specs.Types.{same_type}
use Rattle.plan_frame.specs.Values.{Value, null, IsOf, AllOf}
use Rattle.plan_frame.specs.Frames.{Column, Frame, found, column, column_or, HaveTypes, HasSchema, Holds, HoldsAll, row, picked, picked_columns, rows_at, table_columns, table, with_column, cut, AgreeBy, Agree, total_height, stacked}
use Rattle.plan_frame.proofs.NameSets.{named, same_named, has_cons, has_first, has_later}

-- values of one type

pub null_of : (t : DataType) → IsOf t null
null_of types.Int64 = tt
null_of types.String = tt
null_of types.Boolean = tt
null_of (types.List t) = tt

pub row_of : (t : DataType) (vs : List Value) (i : ℕ) → AllOf t vs → IsOf t (row vs i)
row_of t [] i h = null_of t
row_of t (v ∷ vs) zero h = h.0
row_of t (v ∷ vs) (suc i) h = row_of t vs i h.1

picked_of : (t : DataType) (vs : List Value) (ps : List ℕ) → AllOf t vs → AllOf t (picked ps vs)
picked_of t vs [] h = tt
picked_of t vs (p ∷ ps) h = (row_of t vs p h, picked_of t vs ps h)

pub length-map : {X Y : Type 0} (f : X → Y) (xs : List X) → length (map f xs) ≡ length xs
length-map f [] = refl
length-map f (x ∷ xs) = ap suc (length-map f xs)

pub all_append : (t : DataType) (xs ys : List Value) → AllOf t xs → AllOf t ys → AllOf t (xs ++ ys)
all_append t [] ys h g = g
all_append t (x ∷ xs) ys h g = (h.0, all_append t xs ys h.1 g)

pub same_type_eq : (t u : DataType) → same_type t u ≡ true → t ≡ u
same_type_eq types.Int64 types.Int64 e = refl
same_type_eq types.Int64 types.String e = cc
same_type_eq types.Int64 types.Boolean e = cc
same_type_eq types.Int64 (types.List plains.Int64) e = cc
same_type_eq types.Int64 (types.List plains.String) e = cc
same_type_eq types.Int64 (types.List plains.Boolean) e = cc
same_type_eq types.String types.Int64 e = cc
same_type_eq types.String types.String e = refl
same_type_eq types.String types.Boolean e = cc
same_type_eq types.String (types.List plains.Int64) e = cc
same_type_eq types.String (types.List plains.String) e = cc
same_type_eq types.String (types.List plains.Boolean) e = cc
same_type_eq types.Boolean types.Int64 e = cc
same_type_eq types.Boolean types.String e = cc
same_type_eq types.Boolean types.Boolean e = refl
same_type_eq types.Boolean (types.List plains.Int64) e = cc
same_type_eq types.Boolean (types.List plains.String) e = cc
same_type_eq types.Boolean (types.List plains.Boolean) e = cc
same_type_eq (types.List plains.Int64) types.Int64 e = cc
same_type_eq (types.List plains.Int64) types.String e = cc
same_type_eq (types.List plains.Int64) types.Boolean e = cc
same_type_eq (types.List plains.Int64) (types.List plains.Int64) e = refl
same_type_eq (types.List plains.Int64) (types.List plains.String) e = cc
same_type_eq (types.List plains.Int64) (types.List plains.Boolean) e = cc
same_type_eq (types.List plains.String) types.Int64 e = cc
same_type_eq (types.List plains.String) types.String e = cc
same_type_eq (types.List plains.String) types.Boolean e = cc
same_type_eq (types.List plains.String) (types.List plains.Int64) e = cc
same_type_eq (types.List plains.String) (types.List plains.String) e = refl
same_type_eq (types.List plains.String) (types.List plains.Boolean) e = cc
same_type_eq (types.List plains.Boolean) types.Int64 e = cc
same_type_eq (types.List plains.Boolean) types.String e = cc
same_type_eq (types.List plains.Boolean) types.Boolean e = cc
same_type_eq (types.List plains.Boolean) (types.List plains.Int64) e = cc
same_type_eq (types.List plains.Boolean) (types.List plains.String) e = cc
same_type_eq (types.List plains.Boolean) (types.List plains.Boolean) e = refl

pub is_type_some : (o : Option DataType) (t : DataType) → is_type o t ≡ true → o ≡ Some t
is_type_some None t e = cc
is_type_some (Some u) t e = ap (λ (x : DataType). Some x) (same_type_eq u t e)

pub some_type_is : (t : DataType) → is_type (Some t) t ≡ true
some_type_is types.Int64 = refl
some_type_is types.String = refl
some_type_is types.Boolean = refl
some_type_is (types.List plains.Int64) = refl
some_type_is (types.List plains.String) = refl
some_type_is (types.List plains.Boolean) = refl

pub replicate_of : (t : DataType) (v : Value) (n : ℕ) → IsOf t v → AllOf t (replicate n v)
replicate_of t v zero h = tt
replicate_of t v (suc n) h = (h, replicate_of t v n h)

-- rows of a frame

rows_have : (ps : List ℕ) (h : ℕ) (cs : List Column) (s : Columns) → HaveTypes h cs s → HaveTypes (length ps) (picked_columns ps cs) s
rows_have ps h [] [] k = tt
rows_have ps h (c ∷ cs) (s ∷ ss) k = (k.0, length-map (row c.values) ps, picked_of s.1 c.values ps k.2, rows_have ps h cs ss k.3)
rows_have ps h [] (s ∷ ss) k = absurd k
rows_have ps h (c ∷ cs) [] k = absurd k

-- rows of a frame keep its schema
pub rows_schema : (ps : List ℕ) (f : Frame) (s : Columns) → HasSchema f s → HasSchema (rows_at ps f) s
rows_schema ps f s h = rows_have ps f.height f.columns s h

found_picked_at : (ps : List ℕ) (vs : List Value) (cs : List Column) (a : Name) (b : Bool) → found (picked_columns ps cs) a ≡ option_map (picked ps) (found cs a) → cond b (Some (picked ps vs)) (found (picked_columns ps cs) a) ≡ option_map (picked ps) (cond b (Some vs) (found cs a))
found_picked_at ps vs cs a true e = refl
found_picked_at ps vs cs a false e = e

pub found-picked : (ps : List ℕ) (cs : List Column) (a : Name) → found (picked_columns ps cs) a ≡ option_map (picked ps) (found cs a)
found-picked ps [] a = refl
found-picked ps (c ∷ cs) a = found_picked_at ps c.values cs a (bytes_eq a c.name) (found-picked ps cs a)

-- the columns that a frame holds

abbrev HoldsIn : ℕ → List Column → Name → DataType → Type 0
HoldsIn h cs a t = (vs : List Value) × (found cs a ≡ Some vs) × (length vs ≡ h) × AllOf t vs

holds_at : (h : ℕ) (c : Column) (cs : List Column) (s : Name × DataType) (ss : Columns) (a : Name) (t : DataType) (b : Bool) → c.name ≡ s.0 → length c.values ≡ h → AllOf s.1 c.values → (type_of ss a ≡ Some t → HoldsIn h cs a t) → cond b (Some s.1) (type_of ss a) ≡ Some t → (ws : List Value) × (cond b (Some c.values) (found cs a) ≡ Some ws) × (length ws ≡ h) × AllOf t ws
holds_at h c cs s ss a t true e l o r q = let is : s.1 ≡ t = cc in (c.values, refl, l, subst (λ (x : DataType). AllOf x c.values) is o)
holds_at h c cs s ss a t false e l o r q = r q

holds_in : (h : ℕ) (cs : List Column) (s : Columns) (a : Name) (t : DataType) → HaveTypes h cs s → type_of s a ≡ Some t → HoldsIn h cs a t
holds_in h [] [] a t f q = cc
holds_in h (c ∷ cs) (s ∷ ss) a t f q =
    let b : bytes_eq a s.0 ≡ bytes_eq a c.name = ap (bytes_eq a) (sym f.0) in
    holds_at h c cs s ss a t (bytes_eq a c.name) f.0 f.1 f.2 (holds_in h cs ss a t f.3) (ap (λ (x : Bool). cond x (Some s.1) (type_of ss a)) (sym b) ∙ q)
holds_in h [] (s ∷ ss) a t f q = absurd f
holds_in h (c ∷ cs) [] a t f q = absurd f

-- a frame holds each column of its schema
pub schema_holds : (f : Frame) (s : Columns) (a : Name) (t : DataType) → HasSchema f s → type_of s a ≡ Some t → Holds f (a, t)
schema_holds f s a t h q = holds_in f.height f.columns s a t h q

hold_at : (g : Frame) (c : Name × DataType) (cs : Columns) (a : Name) (t : DataType) (b : Bool) → bytes_eq a c.0 ≡ b → Holds g c → (type_of cs a ≡ Some t → Holds g (a, t)) → cond b (Some c.1) (type_of cs a) ≡ Some t → Holds g (a, t)
hold_at g c cs a t true e h r q =
    let is : c.1 ≡ t = cc in
    (h.0, ap (column g) (named a c.0 e) ∙ h.1, h.2, subst (λ (x : DataType). AllOf x h.0) is h.3)
hold_at g c cs a t false e h r q = r q

-- a frame that holds some columns holds each of them
pub all_hold : (g : Frame) (s : Columns) (a : Name) (t : DataType) → HoldsAll g s → type_of s a ≡ Some t → Holds g (a, t)
all_hold g [] a t h q = cc
all_hold g (c ∷ cs) a t h q = hold_at g c cs a t (bytes_eq a c.0) refl h.0 (all_hold g cs a t h.1) q

-- tables

-- a table has a schema, column by column
pub table_has : (h : ℕ) (s : Columns) (v : Name → List Value) → AllByRecursion (λ (c : Name × DataType). (length (v c.0) ≡ h) × AllOf c.1 (v c.0)) s → HaveTypes h (table_columns (names_of s) v) s
table_has h [] v k = tt
table_has h (c ∷ cs) v k = (refl, k.0.0, k.0.1, table_has h cs v k.1)

pub holds_or : (g : Frame) (c : Name × DataType) → Holds g c → (length (column_or g c.0) ≡ g.height) × AllOf c.1 (column_or g c.0)
holds_or g c h =
    let e : column_or g c.0 ≡ h.0 = ap (λ (o : Option (List Value)). unwrap_or o (replicate g.height null)) h.1 in
    (ap length e ∙ h.2, subst (AllOf c.1) (sym e) h.3)

pub weaker : {X : Type 0} (P Q : X → Type 0) (xs : List X) → ((x : X) → P x → Q x) → AllByRecursion P xs → AllByRecursion Q xs
weaker P Q [] by h = tt
weaker P Q (x ∷ xs) by h = (by x h.0, weaker P Q xs by h.1)

-- a frame cut to columns that it holds has them for its schema
pub cut_schema : (g : Frame) (s : Columns) → HoldsAll g s → HasSchema (cut (names_of s) g) s
cut_schema g s h = table_has g.height s (column_or g) (weaker (Holds g) (λ (c : Name × DataType). (length (column_or g c.0) ≡ g.height) × AllOf c.1 (column_or g c.0)) s (λ c k. holds_or g c k) h)

found_table_at : (v : Name → List Value) (a b : Name) (names : List Name) (t : Bool) → bytes_eq b a ≡ t → (has names b ≡ true → found (table_columns names v) b ≡ Some (v b)) → has (a ∷ names) b ≡ true → cond t (Some (v a)) (found (table_columns names v) b) ≡ Some (v b)
found_table_at v a b names true e r i = ap (λ (x : Name). Some (v x)) (sym (named b a e))
found_table_at v a b names false e r i = r (⊎_elim (λ q. other q) (λ q. q) (has_cons a names b i))
  where
    other : b ≡ a → has names b ≡ true
    other q = let x : bytes_eq b a ≡ true = ap (bytes_eq b) (sym q) ∙ same_named b in cc

-- a table's column of one of its names
pub found-table : (v : Name → List Value) (names : List Name) (b : Name) → has names b ≡ true → found (table_columns names v) b ≡ Some (v b)
found-table v [] b e = cc
found-table v (a ∷ names) b e = found_table_at v a b names (bytes_eq b a) refl (found-table v names b) e

-- columns beside others

with_at : (h : ℕ) (c d : Column) (cs : List Column) (s : Name × DataType) (ss : Columns) (t : DataType) (b : Bool) → bytes_eq c.name d.name ≡ b → d.name ≡ s.0 → length d.values ≡ h → AllOf s.1 d.values → length c.values ≡ h → AllOf t c.values → HaveTypes h cs ss → HaveTypes h (with_column cs c) (with_type ss c.name t) → HaveTypes h (cond b (c ∷ cs) (d ∷ with_column cs c)) (cond b ((s.0, t) ∷ ss) (s ∷ with_type ss c.name t))
with_at h c d cs s ss t true e n l o lc oc k r = (named c.name d.name e ∙ n, lc, oc, k)
with_at h c d cs s ss t false e n l o lc oc k r = (n, l, o, r)

-- a column stands in the place of the one of its name, or last, with its type
pub with_has : (h : ℕ) (cs : List Column) (s : Columns) (c : Column) (t : DataType) → HaveTypes h cs s → length c.values ≡ h → AllOf t c.values → HaveTypes h (with_column cs c) (with_type s c.name t)
with_has h [] [] c t k l o = (refl, l, o, tt)
with_has h (d ∷ cs) (s ∷ ss) c t k l o =
    subst (λ (b : Bool). HaveTypes h (with_column (d ∷ cs) c) (cond b ((s.0, t) ∷ ss) (s ∷ with_type ss c.name t))) (ap (bytes_eq c.name) k.0)
    (with_at h c d cs s ss t (bytes_eq c.name d.name) refl k.0 k.1 k.2 l o k.3 (with_has h cs ss c t k.3 l o))
with_has h [] (s ∷ ss) c t k l o = absurd k
with_has h (d ∷ cs) [] c t k l o = absurd k

-- frames that agree

pub agree_fewer : (l m : List Name) (f g : Frame) → ((a : Name) → has l a ≡ true → has m a ≡ true) → Agree m f g → Agree l f g
agree_fewer l m f g sub h = record { height = h.height; same = λ a i. h.same a (sub a i) }

pub agree_rows : (now : Name → Name) (l : List Name) (ps : List ℕ) (f g : Frame) → AgreeBy now l f g → AgreeBy now l (rows_at ps f) (rows_at ps g)
agree_rows now l ps f g h = record {
  height = refl;
  same = λ a i. found-picked ps f.columns (now a) ∙ ap (option_map (picked ps)) (h.same a i) ∙ sym (found-picked ps g.columns a);
}

pub agree_tables : (l : List Name) (h i : ℕ) (xs ys : List Name) (v w : Name → List Value) → h ≡ i → ((b : Name) → has l b ≡ true → (has xs b ≡ true) × (has ys b ≡ true) × (v b ≡ w b)) → Agree l (table h xs v) (table i ys w)
agree_tables l h i xs ys v w e by = record {
  height = e;
  same = λ b j. let q = by b j in found-table v xs b q.0 ∙ ap (λ (x : List Value). Some x) q.2 ∙ sym (found-table w ys b q.1);
}

pub or_same : (f g : Frame) (a b : Name) → f.height ≡ g.height → column f a ≡ column g b → column_or f a ≡ column_or g b
or_same f g a b h e = ap₂ (λ (o : Option (List Value)) (n : ℕ). unwrap_or o (replicate n null)) e h

same_table : (names : List Name) (v w : Name → List Value) → ((a : Name) → has names a ≡ true → v a ≡ w a) → table_columns names v ≡ table_columns names w
same_table [] v w by = refl
same_table (a ∷ names) v w by = ap₂ (λ (vs : List Value) (cs : List Column). record { name = a; values = vs } ∷ cs) (by a (has_first a names)) (same_table names v w (λ b i. by b (has_later a names b i)))

-- frames that agree on names are cut to them alike
pub cut_same : (names : List Name) (f g : Frame) → Agree names f g → cut names f ≡ cut names g
cut_same names f g h = ap₂ (λ (n : ℕ) (cs : List Column). record { height = n; columns = cs }) h.height (same_table names (column_or f) (column_or g) (λ a i. or_same f g a a h.height (h.same a i)))

-- frames one after another

abbrev Stacked : List Frame → Name × DataType → Type 0
Stacked gs c = (length (stacked gs c.0) ≡ total_height gs) × AllOf c.1 (stacked gs c.0)

stacked_of : (gs : List Frame) (c : Name × DataType) → AllByRecursion (λ (g : Frame). Holds g c) gs → Stacked gs c
stacked_of [] c h = (refl, tt)
stacked_of (g ∷ gs) c h =
    let a = holds_or g c h.0 in
    let b = stacked_of gs c h.1 in
    let la = a.0 in
    let lb = b.0 in
    (omega (arith, length-append (column_or g c.0) (stacked gs c.0)), all_append c.1 (column_or g c.0) (stacked gs c.0) a.1 b.1)

stacked_all : (gs : List Frame) (s : Columns) → AllByRecursion (λ (g : Frame). HoldsAll g s) gs → AllByRecursion (Stacked gs) s
stacked_all gs [] h = tt
stacked_all gs (c ∷ cs) h = (
  stacked_of gs c (weaker (λ (g : Frame). HoldsAll g (c ∷ cs)) (λ (g : Frame). Holds g c) gs (λ g k. k.0) h),
  stacked_all gs cs (weaker (λ (g : Frame). HoldsAll g (c ∷ cs)) (λ (g : Frame). HoldsAll g cs) gs (λ g k. k.1) h),
)

-- frames that hold some columns have them for their schema, one after another
pub stack_has : (gs : List Frame) (s : Columns) → AllByRecursion (λ (g : Frame). HoldsAll g s) gs → HaveTypes (total_height gs) (table_columns (names_of s) (stacked gs)) s
stack_has gs s h = table_has (total_height gs) s (stacked gs) (stacked_all gs s h)
