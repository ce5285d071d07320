-- A frame that is cut to all its names, and columns that are chosen by all their names, stay as they are.
use Rattle.std.proofs.Common.{◌≡◌, Bool, true, false, cond, List, [], ◌∷◌, Option, Some, unwrap_or, replicate, refl, sym, ap, ap₂, ◌∙◌, subst, ⊎_elim}
use Rattle.std.specs.List.{AllByRecursion, IsDistinct}
use Rattle.std.specs.Str.{bytes_eq}
use Rattle.plan_core.specs.declared.data_type.DataType.{DataType}
use Rattle.plan_core.specs.Columns.{Columns, HasDistinctNames, names_of, type_of}
use Rattle.plan_core.specs.Names.{AreDistinct, has}
use Rattle.plan_core.proofs.ColumnLemmas.{flip_false}
use Rattle.plan_expr.specs.Leaves.{Name}
use Rattle.plan_frame.specs.Frames.{Column, Frame, HasSchema, column_names, column_or, cut, found, table_columns}
use Rattle.plan_frame.specs.Values.{Value, null}
use Rattle.plan_frame.proofs.BesideLemmas.{names-are}
use Rattle.plan_frame.proofs.FrameLemmas.{weaker}
use Rattle.plan_frame.proofs.NameSets.{has_cons, has_first, has_later, same_named}

-- Columns with their own names

apart_from : (a : Name) (s : Columns) → AllByRecursion (λ (y : Name). bytes_eq a y ≡ false) (names_of s) → (b : Name) → has (names_of s) b ≡ true → bytes_eq b a ≡ false
apart_from a [] d b i = cc
apart_from a (c ∷ s) d b i = ⊎_elim (λ (e : b ≡ c.0). ap (λ (x : Name). bytes_eq x a) e ∙ flip_false a c.0 d.0) (λ (e : has (names_of s) b ≡ true). apart_from a s d.1 b e) (has_cons c.0 (names_of s) b i)

pub own_types : (s : Columns) → HasDistinctNames s → AllByRecursion (λ (c : Name × DataType). type_of s c.0 ≡ Some c.1) s
unfolding IsDistinct
own_types [] d = tt
own_types (c ∷ s) d = (ap (λ (b : Bool). cond b (Some c.1) (type_of s c.0)) (same_named c.0), each s (λ b i. i) (own_types s d.1))
  where
    each : (t : Columns) → ((b : Name) → has (names_of t) b ≡ true → has (names_of s) b ≡ true) → AllByRecursion (λ (x : Name × DataType). type_of s x.0 ≡ Some x.1) t → AllByRecursion (λ (x : Name × DataType). type_of (c ∷ s) x.0 ≡ Some x.1) t
    each [] sub h = tt
    each (x ∷ t) sub h = (ap (λ (b : Bool). cond b (Some c.1) (type_of s x.0)) (apart_from c.0 s d.0 x.0 (sub x.0 (has_first x.0 (names_of t)))) ∙ h.0, each t (λ b i. sub b (has_later x.0 (names_of t) b i)) h.1)

-- A frame cut to its own names

column_apart : (a : Name) (cs : List Column) → AllByRecursion (λ (y : Name). bytes_eq a y ≡ false) (column_names cs) → (b : Name) → has (column_names cs) b ≡ true → bytes_eq b a ≡ false
column_apart a [] d b i = cc
column_apart a (c ∷ cs) d b i = ⊎_elim (λ (e : b ≡ c.name). ap (λ (x : Name). bytes_eq x a) e ∙ flip_false a c.name d.0) (λ (e : has (column_names cs) b ≡ true). column_apart a cs d.1 b e) (has_cons c.name (column_names cs) b i)

own_found : (cs : List Column) → AreDistinct (column_names cs) → AllByRecursion (λ (c : Column). found cs c.name ≡ Some c.values) cs
unfolding IsDistinct
own_found [] d = tt
own_found (c ∷ cs) d = (ap (λ (b : Bool). cond b (Some c.values) (found cs c.name)) (same_named c.name), each cs (λ b i. i) (own_found cs d.1))
  where
    each : (ds : List Column) → ((b : Name) → has (column_names ds) b ≡ true → has (column_names cs) b ≡ true) → AllByRecursion (λ (x : Column). found cs x.name ≡ Some x.values) ds → AllByRecursion (λ (x : Column). found (c ∷ cs) x.name ≡ Some x.values) ds
    each [] sub h = tt
    each (x ∷ ds) sub h = (ap (λ (b : Bool). cond b (Some c.values) (found cs x.name)) (column_apart c.name cs d.0 x.name (sub x.name (has_first x.name (column_names ds)))) ∙ h.0, each ds (λ b i. sub b (has_later x.name (column_names ds) b i)) h.1)

table_same : (v : Name → List Value) (cs : List Column) → AllByRecursion (λ (c : Column). v c.name ≡ c.values) cs → table_columns (column_names cs) v ≡ cs
table_same v [] h = refl
table_same v (c ∷ cs) h = ap₂ (λ (vs : List Value) (ds : List Column). record { name = c.name; values = vs } ∷ ds) h.0 (table_same v cs h.1)

-- a frame cut to all its names stays as it is
pub cut_whole : (g : Frame) (s : Columns) → HasSchema g s → HasDistinctNames s → cut (names_of s) g ≡ g
cut_whole g s has d =
    let named : column_names g.columns ≡ names_of s = names-are g.height g.columns s has in
    let each = weaker (λ (c : Column). found g.columns c.name ≡ Some c.values) (λ (c : Column). column_or g c.name ≡ c.values) g.columns (λ c e. ap (λ (o : Option (List Value)). unwrap_or o (replicate g.height null)) e) (own_found g.columns (subst AreDistinct (sym named) d)) in
    ap (λ (l : List Name). cut l g) (sym named) ∙ ap (λ (cs : List Column). record { height = g.height; columns = cs }) (table_same (column_or g) g.columns each)
