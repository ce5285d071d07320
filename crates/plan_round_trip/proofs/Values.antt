-- Typed values, and the hive parts that have them, are read as they are written.
use Rattle.std.proofs.Common.{◌≡◌, ℕ, ℤ, Bool, true, false, cond, List, Some, None, refl, subst}
use Rattle.std.specs.Prelude.{is_some}
use Rattle.std.specs.List.{AllByRecursion}
use Rattle.serde_json.specs.Data.{Data, null}
use Rattle.serde_json.specs.Find.{as_null}
use Rattle.plan_core.specs.declared.data_type.DataType.{DataType}
use Rattle.plan_core.specs.declared.data_type.DataType.TheVariants as types
use Rattle.plan_core.specs.declared.data_type.PlainType.{PlainType}
use Rattle.plan_core.specs.declared.data_type.PlainType.TheVariants as plains
use Rattle.plan_table.specs.declared.value.AnyValue.{AnyValue}
use Rattle.plan_table.specs.declared.value.AnyValue.TheVariants as values
use Rattle.plan_table.specs.declared.value.PlainValue.{PlainValue}
use Rattle.plan_table.specs.declared.value.PlainValue.TheVariants as singles
use Rattle.plan_scan.specs.Stats.{Stats, stat, columns_of}
use Rattle.plan_scan.specs.declared.stats.ColumnStats.{ColumnStats}
use Rattle.plan_doc_parts.specs.Parts.{◌>>=◌, each, entries_of, nullable, name_of, integer_of, truth_of, three_of, type_of, distinct_columns}
use Rattle.plan_doc_parts.specs.Values.{typed_single_of, single_value_of, single_values_of, typed_value_of, any_value_of}
use Rattle.plan_doc_parts.proofs.EntryLemmas.{bind_some, some_is}
use Rattle.plan_doc_scans.specs.Hive.{hive_column_of, distinct_stats, hive_part_of, hive_parts_of}
use Rattle.plan_text_pieces.specs.Cells.{single_data, value_data}
use Rattle.plan_text_pieces.specs.Hive.{hive_column_data, hive_part_data, hive_parts_data}
use Rattle.plan_text_pieces.specs.Values.{integer_data, list_data, nullable_data}
use Rattle.plan_round_trip.proofs.Gives.{gives1, gives4}
use Rattle.plan_round_trip.proofs.Steps.{Again, Back}
use Rattle.plan_round_trip.proofs.Lists.{IsCanonical, each_again, each_read, entries_again, entries_canonical, list_again, nullable_back, three_canonical}
use Rattle.plan_round_trip.proofs.Parts.{integer_back}
use Rattle.plan_round_trip.proofs.Names.{type_again}

-- ---- a single value

abbrev SingleAgain : PlainType → PlainValue → Type 0
SingleAgain t v = Again (single_value_of t) single_data v

single_integer : (z : ℤ) → Again integer_of integer_data z → SingleAgain plains.Int64 (singles.Int64 z)
single_integer z e =
    let h : integer_of (integer_data z) ≡ Some z = e in
    rw h refl

single_text : (s : List ℕ) → SingleAgain plains.String (singles.String s)
unfolding name_of
single_text s = refl

single_truth : (b : Bool) → SingleAgain plains.Boolean (singles.Boolean b)
unfolding truth_of
single_truth b = refl

typed_single : (t : PlainType) (d : Data) (v : PlainValue) → IsCanonical d → typed_single_of t d ≡ Some v → SingleAgain t v
typed_single plains.Int64 d v c e = gives1 (integer_of d) (λ n. singles.Int64 n) v e (SingleAgain plains.Int64) (λ n en. single_integer n (integer_back.again d n c en))
typed_single plains.String d v c e = gives1 (name_of d) (λ s. singles.String s) v e (SingleAgain plains.String) (λ s es. single_text s)
typed_single plains.Boolean d v c e = gives1 (truth_of d) (λ b. singles.Boolean b) v e (SingleAgain plains.Boolean) (λ b eb. single_truth b)

single_again : (t : PlainType) (d : Data) (v : PlainValue) → IsCanonical d → single_value_of t d ≡ Some v → SingleAgain t v
single_again t d v c e = by_test (is_some (as_null d)) e
  where
    by_test : (b : Bool) → cond b (Some singles.Null) (typed_single_of t d) ≡ Some v → SingleAgain t v
    by_test true q = subst (SingleAgain t) (some_is singles.Null v q) refl
    by_test false q = typed_single t d v c q

single_back : (t : PlainType) → Back (single_value_of t) single_data
single_back t = record { again = single_again t }

singles_again : (t : PlainType) (d : Data) (vs : List PlainValue) → IsCanonical d → single_values_of t d ≡ Some vs → Again (single_values_of t) (list_data single_data) vs
unfolding single_values_of
singles_again t d vs c e = list_again (single_back t) d vs c e

-- ---- a value

abbrev ValueAgain : DataType → AnyValue → Type 0
ValueAgain t v = Again (any_value_of t) value_data v

value_integer : (z : ℤ) → Again integer_of integer_data z → ValueAgain types.Int64 (values.Int64 z)
value_integer z e =
    let h : integer_of (integer_data z) ≡ Some z = e in
    rw h refl

value_text : (s : List ℕ) → ValueAgain types.String (values.String s)
unfolding name_of
value_text s = refl

value_truth : (b : Bool) → ValueAgain types.Boolean (values.Boolean b)
unfolding truth_of
value_truth b = refl

value_list : (t : PlainType) (vs : List PlainValue) → Again (single_values_of t) (list_data single_data) vs → ValueAgain (types.List t) (values.List vs)
unfolding list_data
value_list t vs e =
    let h : single_values_of t (list_data single_data vs) ≡ Some vs = e in
    rw h refl

typed_value : (t : DataType) (d : Data) (v : AnyValue) → IsCanonical d → typed_value_of t d ≡ Some v → ValueAgain t v
typed_value types.Int64 d v c e = gives1 (integer_of d) (λ n. values.Int64 n) v e (ValueAgain types.Int64) (λ n en. value_integer n (integer_back.again d n c en))
typed_value types.String d v c e = gives1 (name_of d) (λ s. values.String s) v e (ValueAgain types.String) (λ s es. value_text s)
typed_value types.Boolean d v c e = gives1 (truth_of d) (λ b. values.Boolean b) v e (ValueAgain types.Boolean) (λ b eb. value_truth b)
typed_value (types.List t) d v c e = gives1 (single_values_of t d) (λ vs. values.List vs) v e (ValueAgain (types.List t)) (λ vs es. value_list t vs (singles_again t d vs c es))

value_again : (t : DataType) (d : Data) (v : AnyValue) → IsCanonical d → any_value_of t d ≡ Some v → ValueAgain t v
value_again t d v c e = by_test (is_some (as_null d)) e
  where
    by_test : (b : Bool) → cond b (Some values.Null) (typed_value_of t d) ≡ Some v → ValueAgain t v
    by_test true q = subst (ValueAgain t) (some_is values.Null v q) refl
    by_test false q = typed_value t d v c q

-- ---- hive parts

hive_column_read : (n : List ℕ) (t : DataType) (v : AnyValue) → ValueAgain t v → Again hive_column_of hive_column_data (stat (n, t) v)
unfolding hive_column_of three_of entries_of name_of
hive_column_read n t v e =
    let h : any_value_of t (value_data v) ≡ Some v = e in
    rw (type_again t, h) refl

hive_column_again : (d : Data) (s : ColumnStats) → IsCanonical d → hive_column_of d ≡ Some s → Again hive_column_of hive_column_data s
unfolding hive_column_of
hive_column_again d s c e =
    gives4 (three_of d) (λ p. name_of p.0) (λ p n. type_of p.1) (λ p n t. any_value_of t p.2) (λ p n t v. stat (n, t) v) s e (Again hive_column_of hive_column_data)
    (λ p n t v ep en et ev. hive_column_read n t v (value_again t p.2 v (three_canonical d p c ep) ev))

hive_column_back : Back hive_column_of hive_column_data
hive_column_back = record { again = hive_column_again }

pub hive_part_read : (ss : Stats) (named : List (List ℕ × DataType)) → AllByRecursion (Again hive_column_of hive_column_data) ss → distinct_columns (columns_of ss) ≡ Some named → Again hive_part_of hive_part_data ss
unfolding hive_part_of
hive_part_read ss named a e = rw (entries_again hive_column_data ss, each_read hive_column_of hive_column_data ss a, e) refl

hive_part_again : (d : Data) (ss : Stats) → IsCanonical d → hive_part_of d ≡ Some ss → Again hive_part_of hive_part_data ss
unfolding hive_part_of
hive_part_again d ss c e =
    let ds = bind_some (entries_of d) (λ ds. each hive_column_of ds >>= λ ts. distinct_stats ts) ss e in
    let ts = bind_some (each hive_column_of ds.0) (λ ts. distinct_stats ts) ss ds.2 in
    let all : AllByRecursion (Again hive_column_of hive_column_data) ts.0 = each_again hive_column_back ds.0 ts.0 (entries_canonical d ds.0 c ds.1) ts.1 in
    gives1 (distinct_columns (columns_of ts.0)) (λ n. ts.0) ss ts.2 (Again hive_part_of hive_part_data) (λ n en. hive_part_read ts.0 n all en)

hive_part_back : Back hive_part_of hive_part_data
hive_part_back = record { again = hive_part_again }

hive_parts_again : (d : Data) (ps : List Stats) → IsCanonical d → hive_parts_of d ≡ Some ps → Again hive_parts_of hive_parts_data ps
unfolding hive_parts_of
hive_parts_again d ps c e = list_again hive_part_back d ps c e

hive_parts_back : Back hive_parts_of hive_parts_data
hive_parts_back = record { again = hive_parts_again }

pub no_parts : hive_parts_of null ≡ None
unfolding hive_parts_of entries_of
no_parts = refl

pub maybe_parts : Back (nullable hive_parts_of) (nullable_data hive_parts_data)
maybe_parts = nullable_back hive_parts_back no_parts
