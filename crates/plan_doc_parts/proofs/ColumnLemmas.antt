-- Columns that are read one after another, into a schema.
use Rattle.std.proofs.Common.{◌≡◌, ℕ, Bool, true, false, cond, List, [], ◌∷◌, ◌++◌, Some, None, refl, ap}
use Rattle.std.specs.Str.{bytes_eq}
use Rattle.std.specs.List.{list_any}
use Rattle.std.proofs.lemmas.List.{map-append}
use Rattle.plan_core.specs.declared.data_type.DataType.{DataType}
use Rattle.plan_core.specs.Columns.{Columns, type_of, with_type}
use Rattle.plan_doc_parts.specs.Parts.{column_names, are_distinct, distinct_columns}
use Rattle.plan_doc_parts.proofs.DistinctLemmas.{absent_or, there_or, either_false, distinct_last, distinct_twice}

module _ (name : List ℕ) (t : DataType) where
  -- the name is not there
  absent_name : (cs : Columns) → type_of cs name ≡ None → list_any (bytes_eq name) (column_names cs) ≡ false
  absent_name [] e = refl
  absent_name (c ∷ cs) e = either_false (bytes_eq name c.0) (list_any (bytes_eq name) (column_names cs)) (absent_or (bytes_eq name c.0) (list_any (bytes_eq name) (column_names cs)) c.1 (type_of cs name) e (absent_name cs))

  -- the name is there
  name_there : (cs : Columns) (u : DataType) → type_of cs name ≡ Some u → list_any (bytes_eq name) (column_names cs) ≡ true
  name_there [] u e = absurd cc
  name_there (c ∷ cs) u e = there_or (bytes_eq name c.0) (list_any (bytes_eq name) (column_names cs)) c.1 u (type_of cs name) e (name_there cs u)

  -- a name that is not there goes last
  pub type_last : (cs : Columns) → type_of cs name ≡ None → with_type cs name t ≡ cs ++ (name, t) ∷ []
  type_last [] e = refl
  type_last (c ∷ cs) e = by_test (bytes_eq name c.0) e (type_last cs)
    where
      by_test : (b : Bool) → cond b (Some c.1) (type_of cs name) ≡ None → (type_of cs name ≡ None → with_type cs name t ≡ cs ++ (name, t) ∷ []) → cond b ((c.0, t) ∷ cs) (c ∷ with_type cs name t) ≡ c ∷ cs ++ (name, t) ∷ []
      by_test true e more = absurd cc
      by_test false e more = ap (λ (l : Columns). c ∷ l) (more e)

  -- the names stay distinct
  pub names_last : (cs : Columns) → type_of cs name ≡ None → are_distinct bytes_eq (column_names cs) ≡ true → are_distinct bytes_eq (column_names (cs ++ (name, t) ∷ [])) ≡ true
  names_last cs e h = rw (map-append (λ (c : List ℕ × DataType). c.0) cs ((name, t) ∷ [])) (distinct_last bytes_eq name (column_names cs) (absent_name cs e) h)

  -- a column of a name that is there
  pub name_twice : (cs : Columns) (u : DataType) → type_of cs name ≡ Some u → (rest : Columns) → distinct_columns (cs ++ (name, t) ∷ rest) ≡ None
  name_twice cs u e rest = rw (map-append (λ (c : List ℕ × DataType). c.0) cs ((name, t) ∷ rest), distinct_twice bytes_eq name (column_names cs) (column_names rest) (name_there cs u e)) refl
