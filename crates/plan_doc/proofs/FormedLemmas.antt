-- What a document stands for as a table is well formed.
use Rattle.std.proofs.lemmas.Bool.{eqb-true}
use Rattle.std.proofs.Common.{◌≡◌, ℕ, Bool, true, false, cond, ◌==◌, List, [], ◌∷◌, length, map, Some, None, refl, ap, subst}
use Rattle.std.specs.Str.{bytes_eq}
use Rattle.std.specs.Prelude.{codes}
use Rattle.std.specs.List.{list_any, AllByRecursion, IsDistinct}
use Rattle.serde_json.specs.Data.{Data}
use Rattle.serde_json.specs.Find.{get}
use Rattle.plan_core.specs.declared.data_type.DataType.{DataType}
use Rattle.plan_core.specs.Columns.{HasDistinctNames}
use Rattle.plan_core.proofs.ColumnLemmas.{flip_false}
use Rattle.plan_table.specs.declared.column.Column.{Column}
use Rattle.plan_table.specs.declared.source_key.SourceKey.{SourceKey}
use Rattle.plan_table.specs.declared.table.Table.{Table}
use Rattle.plan_table.specs.declared.value.AnyValue.{AnyValue}
use Rattle.plan_table.specs.Tables.{IsOf, IsColumn, IsTable, types_of}
use Rattle.plan_doc_parts.specs.Parts.{◌>>=◌, each, entries_of, name_of, number_of, three_of, type_of, are_distinct}
use Rattle.plan_doc_parts.specs.Members.{object_of, at}
use Rattle.plan_doc_parts.specs.Values.{any_values_of}
use Rattle.plan_doc.specs.Tables.{so_many, table_column_of, table_names, distinctly_named, table_columns_of, source_key_of, table_of}
use Rattle.plan_doc_parts.proofs.EntryLemmas.{bind_some, some_is}
use Rattle.plan_doc_parts.proofs.DistinctLemmas.{none_of, none_else}
use Rattle.plan_doc_parts.proofs.TypedLemmas.{each_holds, values_are}

-- there are so many of them
as_many : (h : ℕ) (vs all : List AnyValue) → so_many h vs ≡ Some all → (vs ≡ all) × (length all ≡ h)
as_many h vs all e = by_test (length vs == h) refl e
  where
    by_test : (b : Bool) → (length vs == h) ≡ b → cond b (Some vs) None ≡ Some all → (vs ≡ all) × (length all ≡ h)
    by_test true q k = let is : vs ≡ all = some_is vs all k in (is, subst (λ (l : List AnyValue). length l ≡ h) is (eqb-true (length vs) h q))
    by_test false q k = absurd cc

-- a column that is read has its values
column_is : (h : ℕ) (d : Data) (c : Column) → table_column_of h d ≡ Some c → IsColumn h c
unfolding table_column_of
column_is h d c e =
    let p = bind_some (three_of d) (λ p. name_of p.0 >>= λ n. type_of p.1 >>= λ t. any_values_of t p.2 >>= λ vs. so_many h vs >>= λ all. Some (record { name = n; dtype = t; values = all })) c e in
    let n = bind_some (name_of p.0.0) (λ n. type_of p.0.1 >>= λ t. any_values_of t p.0.2 >>= λ vs. so_many h vs >>= λ all. Some (record { name = n; dtype = t; values = all })) c p.2 in
    let t = bind_some (type_of p.0.1) (λ t. any_values_of t p.0.2 >>= λ vs. so_many h vs >>= λ all. Some (record { name = n.0; dtype = t; values = all })) c n.2 in
    let vs = bind_some (any_values_of t.0 p.0.2) (λ vs. so_many h vs >>= λ all. Some (record { name = n.0; dtype = t.0; values = all })) c t.2 in
    let all = bind_some (so_many h vs.0) (λ all. Some (record { name = n.0; dtype = t.0; values = all })) c vs.2 in
    let many = as_many h vs.0 all.0 all.1 in
    let is : record { name = n.0; dtype = t.0; values = all.0 } ≡ c = some_is (record { name = n.0; dtype = t.0; values = all.0 }) c all.2 in
    subst (IsColumn h) is (many.1, subst (AllByRecursion (IsOf t.0)) many.0 (values_are t.0 p.0.2 vs.0 vs.1))

names_differ : (n : List ℕ) (cs : List Column) → list_any (λ m. bytes_eq m n) (table_names cs) ≡ false → AllByRecursion (λ (y : List ℕ). bytes_eq n y ≡ false) (map (λ (c : List ℕ × DataType). c.0) (types_of cs))
names_differ n [] e = tt
names_differ n (c ∷ cs) e =
    let p = none_else (bytes_eq c.name n) (list_any (λ m. bytes_eq m n) (table_names cs)) e in
    (flip_false c.name n p.0, names_differ n cs p.1)

-- names of which none stands twice
distinct_names : (cs : List Column) → are_distinct bytes_eq (table_names cs) ≡ true → HasDistinctNames (types_of cs)
unfolding IsDistinct
distinct_names [] e = tt
distinct_names (c ∷ cs) e =
    let p = none_of (list_any (λ m. bytes_eq m c.name) (table_names cs)) (are_distinct bytes_eq (table_names cs)) e in
    (names_differ c.name cs p.0, distinct_names cs p.1)

kept_names : (cs all : List Column) → distinctly_named cs ≡ Some all → (cs ≡ all) × HasDistinctNames (types_of all)
kept_names cs all e = by_test (are_distinct bytes_eq (table_names cs)) refl e
  where
    by_test : (b : Bool) → are_distinct bytes_eq (table_names cs) ≡ b → cond b (Some cs) None ≡ Some all → (cs ≡ all) × HasDistinctNames (types_of all)
    by_test true q k = let is : cs ≡ all = some_is cs all k in (is, subst (λ (l : List Column). HasDistinctNames (types_of l)) is (distinct_names cs q))
    by_test false q k = absurd cc

-- columns that are read have their values, and no name stands twice
columns_are : (h : ℕ) (d : Data) (all : List Column) → table_columns_of h d ≡ Some all → AllByRecursion (IsColumn h) all × HasDistinctNames (types_of all)
unfolding table_columns_of
columns_are h d all e =
    let a = bind_some (entries_of d) (λ ds. each (table_column_of h) ds >>= λ cs. distinctly_named cs) all e in
    let b = bind_some (each (table_column_of h) a.0) (λ cs. distinctly_named cs) all a.2 in
    let p = kept_names b.0 all b.2 in
    (subst (AllByRecursion (IsColumn h)) p.0 (each_holds (table_column_of h) (IsColumn h) (column_is h) a.0 b.0 b.1), p.1)

-- a table that is read is well formed
pub table_is : (d : Data) (key : SourceKey) (t : Table) → table_of d ≡ Some (key, t) → IsTable t
unfolding table_of
table_is d key t e =
    let o = bind_some (object_of (codes "columns" ∷ codes "height" ∷ codes "source" ∷ []) d) (λ o. get (codes "source") o >>= λ source. source_key_of source >>= λ k. at (codes "height") number_of o >>= λ h. get (codes "columns") o >>= λ columns. table_columns_of h columns >>= λ cs. Some (k, record { height = h; columns = cs })) (key, t) e in
    let s = bind_some (get (codes "source") o.0) (λ source. source_key_of source >>= λ k. at (codes "height") number_of o.0 >>= λ h. get (codes "columns") o.0 >>= λ columns. table_columns_of h columns >>= λ cs. Some (k, record { height = h; columns = cs })) (key, t) o.2 in
    let k = bind_some (source_key_of s.0) (λ k. at (codes "height") number_of o.0 >>= λ h. get (codes "columns") o.0 >>= λ columns. table_columns_of h columns >>= λ cs. Some (k, record { height = h; columns = cs })) (key, t) s.2 in
    let h = bind_some (at (codes "height") number_of o.0) (λ h. get (codes "columns") o.0 >>= λ columns. table_columns_of h columns >>= λ cs. Some (k.0, record { height = h; columns = cs })) (key, t) k.2 in
    let c = bind_some (get (codes "columns") o.0) (λ columns. table_columns_of h.0 columns >>= λ cs. Some (k.0, record { height = h.0; columns = cs })) (key, t) h.2 in
    let cs = bind_some (table_columns_of h.0 c.0) (λ cs. Some (k.0, record { height = h.0; columns = cs })) (key, t) c.2 in
    let is : (k.0, record { height = h.0; columns = cs.0 }) ≡ (key, t) = some_is (k.0, record { height = h.0; columns = cs.0 }) (key, t) cs.2 in
    subst IsTable (ap (λ (p : SourceKey × Table). p.1) is) (columns_are h.0 c.0 cs.0 cs.1)
