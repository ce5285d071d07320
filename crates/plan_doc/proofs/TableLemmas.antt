-- Columns and tables that are read one after another.
use Rattle.std.proofs.Common.{◌≡◌, Bool, true, false, cond, List, [], ◌∷◌, ◌++◌, Some, None, refl, ap}
use Rattle.std.specs.Map.{keys_of}
use Rattle.std.specs.Str.{bytes_eq}
use Rattle.std.specs.List.{list_any}
use Rattle.std.proofs.lemmas.List.{map-append}
use Rattle.plan_table.specs.declared.column.Column.{Column}
use Rattle.plan_table.specs.declared.source_key.SourceKey.{SourceKey}
use Rattle.plan_table.specs.declared.table.Table.{Table}
use Rattle.plan_table.specs.Tables.{column_of, with_column, same_key, table_at}
use Rattle.plan_doc_parts.specs.Parts.{are_distinct}
use Rattle.plan_doc.specs.Tables.{table_names, distinctly_named, distinctly_kept}
use Rattle.plan_doc_parts.proofs.DistinctLemmas.{absent_or, there_or, either_false, distinct_last, distinct_twice}

module _ (c : Column) where
  -- no column of the name is there
  absent_name : (cs : List Column) → column_of cs c.name ≡ None → list_any (bytes_eq c.name) (table_names cs) ≡ false
  absent_name [] e = refl
  absent_name (d ∷ cs) e = either_false (bytes_eq c.name d.name) (list_any (bytes_eq c.name) (table_names cs)) (absent_or (bytes_eq c.name d.name) (list_any (bytes_eq c.name) (table_names cs)) d (column_of cs c.name) e (absent_name cs))

  -- a column of the name is there
  name_there : (cs : List Column) (d : Column) → column_of cs c.name ≡ Some d → list_any (bytes_eq c.name) (table_names cs) ≡ true
  name_there [] d e = absurd cc
  name_there (b ∷ cs) d e = there_or (bytes_eq c.name b.name) (list_any (bytes_eq c.name) (table_names cs)) b d (column_of cs c.name) e (name_there cs d)

  -- a column of a new name goes last
  pub column_last : (cs : List Column) → column_of cs c.name ≡ None → with_column cs c ≡ cs ++ c ∷ []
  column_last [] e = refl
  column_last (d ∷ cs) e = by_test (bytes_eq c.name d.name) e (column_last cs)
    where
      by_test : (b : Bool) → cond b (Some d) (column_of cs c.name) ≡ None → (column_of cs c.name ≡ None → with_column cs c ≡ cs ++ c ∷ []) → cond b (c ∷ cs) (d ∷ with_column cs c) ≡ d ∷ cs ++ c ∷ []
      by_test true e more = absurd cc
      by_test false e more = ap (λ (l : List Column). d ∷ l) (more e)

  -- the names stay distinct
  pub names_last : (cs : List Column) → column_of cs c.name ≡ None → are_distinct bytes_eq (table_names cs) ≡ true → are_distinct bytes_eq (table_names (cs ++ c ∷ [])) ≡ true
  names_last cs e h = rw (map-append (λ (d : Column). d.name) cs (c ∷ [])) (distinct_last bytes_eq c.name (table_names cs) (absent_name cs e) h)

  -- a column of a name that is there
  pub name_twice : (cs : List Column) (d : Column) → column_of cs c.name ≡ Some d → (rest : List Column) → distinctly_named (cs ++ c ∷ rest) ≡ None
  name_twice cs d e rest = rw (map-append (λ (b : Column). b.name) cs (c ∷ rest), distinct_twice bytes_eq c.name (table_names cs) (table_names rest) (name_there cs d e)) refl

module _ (key : SourceKey) (t : Table) where
  -- the source has no table
  absent_key : (ts : List (SourceKey × Table)) → table_at ts key ≡ None → list_any (same_key key) (keys_of ts) ≡ false
  absent_key [] e = refl
  absent_key (p ∷ ts) e = either_false (same_key key p.0) (list_any (same_key key) (keys_of ts)) (absent_or (same_key key p.0) (list_any (same_key key) (keys_of ts)) p.1 (table_at ts key) e (absent_key ts))

  -- the source has a table
  key_there : (ts : List (SourceKey × Table)) (u : Table) → table_at ts key ≡ Some u → list_any (same_key key) (keys_of ts) ≡ true
  key_there [] u e = absurd cc
  key_there (p ∷ ts) u e = there_or (same_key key p.0) (list_any (same_key key) (keys_of ts)) p.1 u (table_at ts key) e (key_there ts u)

  -- the sources stay distinct
  pub keys_last : (ts : List (SourceKey × Table)) → table_at ts key ≡ None → are_distinct same_key (keys_of ts) ≡ true → are_distinct same_key (keys_of (ts ++ (key, t) ∷ [])) ≡ true
  keys_last ts e h = rw (map-append (λ (p : SourceKey × Table). p.0) ts ((key, t) ∷ [])) (distinct_last same_key key (keys_of ts) (absent_key ts e) h)

  -- a table of a source that has one
  pub key_twice : (ts : List (SourceKey × Table)) (u : Table) → table_at ts key ≡ Some u → (rest : List (SourceKey × Table)) → distinctly_kept (ts ++ (key, t) ∷ rest) ≡ None
  key_twice ts u e rest = rw (map-append (λ (p : SourceKey × Table). p.0) ts ((key, t) ∷ rest), distinct_twice same_key key (keys_of ts) (keys_of rest) (key_there ts u e)) refl
