-- Hive columns that are read one after another.
use Rattle.std.proofs.Common.{◌≡◌, ◌≤◌, ℕ, true, List, [], ◌∷◌, ◌++◌, length, map, take, take_all, Some, None, refl, sym, ap, ◌∙◌, subst}
use Rattle.std.specs.Str.{bytes_eq}
use Rattle.std.proofs.lemmas.List.{map-append}
use Rattle.serde_json.specs.Data.{Data}
use Rattle.serde_json.specs.View.{view}
use Rattle.serde_json.specs.declared.value.Value.{Value}
use Rattle.plan_core.specs.declared.data_type.DataType.{DataType}
use Rattle.plan_core.specs.Columns.{Columns, type_of}
use Rattle.plan_table.specs.declared.value.AnyValue.{AnyValue}
use Rattle.plan_scan.specs.declared.stats.ColumnStats.{ColumnStats}
use Rattle.plan_scan.specs.Stats.{Stats, stat, column_of, columns_of, with_values, Fits, HasType}
use Rattle.plan_scan.proofs.StatLemmas.{fitting}
use Rattle.plan_doc_parts.specs.Parts.{◌>>=◌, each, name_of, three_of, type_of as type_read, column_names, are_distinct, distinct_columns}
use Rattle.plan_doc_parts.specs.Values.{any_value_of}
use Rattle.plan_doc_parts.proofs.ColumnLemmas.{name_twice}
use Rattle.plan_doc_parts.proofs.EntryLemmas.{bind_some, some_is}
use Rattle.plan_doc_parts.proofs.TypedLemmas.{any_is}
use Rattle.plan_doc_scans.specs.Hive.{hive_column_of, distinct_stats}

-- the value of a column that is read is null or of the type
pub column_typed : (d : Data) (s : ColumnStats) → hive_column_of d ≡ Some s → HasType s
unfolding hive_column_of
column_typed d s e =
    let p = bind_some (three_of d) (λ p. name_of p.0 >>= λ n. type_read p.1 >>= λ t. any_value_of t p.2 >>= λ v. Some (stat (n, t) v)) s e in
    let n = bind_some (name_of p.0.0) (λ n. type_read p.0.1 >>= λ t. any_value_of t p.0.2 >>= λ v. Some (stat (n, t) v)) s p.2 in
    let t = bind_some (type_read p.0.1) (λ t. any_value_of t p.0.2 >>= λ v. Some (stat (n.0, t) v)) s n.2 in
    let v = bind_some (any_value_of t.0 p.0.2) (λ v. Some (stat (n.0, t.0) v)) s t.2 in
    let read : ColumnStats = stat (n.0, t.0) v.0 in
    let is : read ≡ s = some_is read s v.2 in
    subst HasType {x = read} is (any_is t.0 p.0.2 v.0 v.1)

module _ (s : ColumnStats) where
  -- values fit the columns where one goes behind the others
  pub fits_last : (cs : Columns) (vs : List AnyValue) → Fits cs vs → HasType s → Fits (cs ++ column_of s ∷ []) (vs ++ s.value ∷ [])
  fits_last [] [] h k = (k, tt)
  fits_last [] (w ∷ vs) h k = absurd h
  fits_last (d ∷ cs) [] h k = absurd h
  fits_last (d ∷ cs) (w ∷ vs) h k = (h.0, fits_last cs vs h.1 k)

  -- a column with its value goes behind the others
  pub stats_last : (cs : Columns) (vs : List AnyValue) → Fits cs vs → with_values (cs ++ column_of s ∷ []) (vs ++ s.value ∷ []) ≡ with_values cs vs ++ s ∷ []
  stats_last [] [] h = refl
  stats_last [] (w ∷ vs) h = absurd h
  stats_last (d ∷ cs) [] h = absurd h
  stats_last (d ∷ cs) (w ∷ vs) h = ap (λ (l : Stats). stat d w ∷ l) (stats_last cs vs h.1)

  -- a column of a name that is there
  pub stat_twice : (cs : Columns) (vs : List AnyValue) (u : DataType) → Fits cs vs → type_of cs s.field.name ≡ Some u → (rest : Stats) → distinct_stats (with_values cs vs ++ s ∷ rest) ≡ None
  stat_twice cs vs u fits there rest =
      let named : columns_of (with_values cs vs) ≡ cs = (fitting cs vs fits).named in
      let none : distinct_columns (columns_of (with_values cs vs ++ s ∷ rest)) ≡ None =
      ap distinct_columns (map-append column_of (with_values cs vs) (s ∷ rest) ∙ ap (λ (l : Columns). l ++ column_of s ∷ columns_of rest) named)
      ∙ name_twice s.field.name s.field.dtype cs u there (columns_of rest) in
      rw none refl

-- columns of distinct names are kept
pub stats_kept : (cs : Columns) (vs : List AnyValue) → Fits cs vs → are_distinct bytes_eq (column_names cs) ≡ true → distinct_stats (with_values cs vs) ≡ Some (with_values cs vs)
stats_kept cs vs fits distinct = rw ((fitting cs vs fits).named, distinct) refl

-- the columns of all entries are read
pub part_read : (es : List Value) (i : ℕ) (cs : Columns) (vs : List AnyValue) → length es ≤ i → each hive_column_of (map view (take i es)) ≡ Some (with_values cs vs) → Fits cs vs → are_distinct bytes_eq (column_names cs) ≡ true → (each hive_column_of (map view es) >>= distinct_stats) ≡ Some (with_values cs vs)
part_read es i cs vs past read fits distinct =
    let all : each hive_column_of (map view es) ≡ Some (with_values cs vs) = ap (λ (l : List Value). each hive_column_of (map view l)) (sym (take_all i es past)) ∙ read in
    rw all (stats_kept cs vs fits distinct)
