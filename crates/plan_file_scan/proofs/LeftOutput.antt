-- What is put out by what is left of a scan: the asked names, each once, with the types that they have in the files.
use Rattle.std.proofs.Common.{◌≡◌, Bool, true, false, not, List, [], ◌∷◌, Option, Some, is_some, refl, sym, ap, ◌∙◌, subst}
use Rattle.std.specs.List.{AllByRecursion, filter as only_where}
use Rattle.std.specs.Str.{bytes_eq}
use Rattle.std.proofs.lemmas.List.Sorted.{IsPermutation-filter_both, list_any-IsPermutation}
use Rattle.std.proofs.lemmas.Map.Keys.{IsDistinct-IsPermutation}
use Rattle.std.specs.Prelude.{IsPermutation}
use Rattle.plan_core.specs.declared.data_type.DataType.{DataType}
use Rattle.plan_core.specs.declared.options.FileScanOptions.{FileScanOptions}
use Rattle.plan_core.specs.Columns.{Columns, names_of, type_of}
use Rattle.plan_core.specs.Names.{has, AreDistinct}
use Rattle.plan_core.proofs.ColumnLemmas.{flip_false}
use Rattle.plan_expr.specs.Leaves.{Name}
use Rattle.plan_frame.specs.Exprs.{is_type}
use Rattle.plan_frame.specs.Reshaped.{columns_at}
use Rattle.plan_frame.proofs.FrameLemmas.{some_type_is}
use Rattle.plan_frame.proofs.NameSets.{named, some-type_of, same_named}
use Rattle.plan_scan.specs.Stats.{Stats, named_among}
use Rattle.plan_scan.specs.declared.file_scan.FileScan.{FileScan}
use Rattle.plan_files.specs.FileColumns.{file_columns, hive_columns}
use Rattle.plan_file_scan.specs.Left.{AreAmong, AreNamed, columns_left, in_file_order, is_path, left_output, path_last}
use Rattle.plan_file_scan.proofs.NameLemmas.{distinct_where, has_where, names-columns_at, names-where, own-types, some_or, type_of-among, type_of-columns_at, where_has}
use Rattle.plan_file_scan.proofs.ScanColumns.{left_differ, left_types}

-- the names with their types
pub typed_named : (file : Columns) (wanted : List Name) → AreDistinct wanted → ((a : Name) → has wanted a ≡ true → is_some (type_of file a) ≡ true) → AreNamed wanted file (columns_at file wanted)
typed_named file wanted once known = record {
  named = λ a. ap (λ (l : List Name). has l a) (names-columns_at file wanted);
  typed = λ a i. type_of-columns_at file wanted a i ∙ sym (some_or (type_of file a) (known a i));
  once = subst AreDistinct (sym (names-columns_at file wanted)) once;
}

-- the columns with the names
kept_named : (file : Columns) (wanted : List Name) → AreDistinct (names_of file) → ((a : Name) → has wanted a ≡ true → is_some (type_of file a) ≡ true) → AreNamed wanted file (named_among wanted file)
kept_named file wanted differ known = record {
  named = λ a. ap (λ (l : List Name). has l a) (names-where (has wanted) file) ∙ at a (has (only_where (has wanted) (names_of file)) a) (has wanted a) refl refl;
  typed = λ a i. type_of-among wanted file a i;
  once = subst AreDistinct (sym (names-where (has wanted) file)) (distinct_where (has wanted) (names_of file) differ);
}
  where
    at : (a : Name) (x y : Bool) → has (only_where (has wanted) (names_of file)) a ≡ x → has wanted a ≡ y → x ≡ y
    at a true y e f = sym (where_has (has wanted) (names_of file) a e).1 ∙ f
    at a false false e f = refl
    at a false true e f = sym e ∙ has_where (has wanted) (names_of file) a f (sym (some-type_of file a) ∙ known a f)

-- the names with that of the paths last

either_way : (x y : Name) → bytes_eq x y ≡ bytes_eq y x
either_way x y = at (bytes_eq x y) refl
  where
    at : (b : Bool) → bytes_eq x y ≡ b → b ≡ bytes_eq y x
    at false e = sym (flip_false x y e)
    at true e = sym (ap (bytes_eq y) (named x y e) ∙ same_named y)

twice_not : (b : Bool) → b ≡ not (not b)
twice_not true = refl
twice_not false = refl

last_shuffles : (path : Option Name) (wanted : List Name) → IsPermutation wanted (path_last path wanted)
last_shuffles path wanted = IsPermutation-filter_both (λ (a : Name). not (is_path path a)) (is_path path) (λ (a : Name). twice_not (is_path path a)) wanted

last_named : (path : Option Name) (file : Columns) (wanted : List Name) → AreDistinct wanted → ((a : Name) → has wanted a ≡ true → is_some (type_of file a) ≡ true) → AreNamed wanted file (columns_at file (path_last path wanted))
last_named path file wanted once known =
    let same : (a : Name) → has wanted a ≡ has (path_last path wanted) a = λ a. list_any-IsPermutation (bytes_eq a) wanted (path_last path wanted) (last_shuffles path wanted) in
    let h = typed_named file (path_last path wanted) (IsDistinct-IsPermutation bytes_eq either_way wanted (path_last path wanted) (last_shuffles path wanted) once) (λ a i. known a (same a ∙ i)) in
    record {
      named = λ a. h.named a ∙ sym (same a);
      typed = λ a i. h.typed a (sym (same a) ∙ i);
      once = h.once;
    }

-- what is put out of the columns of files, where these names are asked
pub output_named : (in_order : Bool) (path : Option Name) (file : Columns) (wanted : List Name) → AreDistinct wanted → AreDistinct (names_of file) → ((a : Name) → has wanted a ≡ true → is_some (type_of file a) ≡ true) → AreNamed wanted file (left_output in_order path wanted file)
output_named true path file wanted once differ known = kept_named file wanted differ known
output_named false path file wanted once differ known = last_named path file wanted once known

-- columns that are named so are asked, and are columns of the others
pub named_columns : (wanted : List Name) (file out : Columns) → AreNamed wanted file out → AllByRecursion (λ (c : Name × DataType). (has wanted c.0 ≡ true) × (is_type (type_of file c.0) c.1 ≡ true)) out
named_columns wanted file out h = each out (own-types out h.once)
  where
    each : (cs : Columns) → AllByRecursion (λ (c : Name × DataType). type_of out c.0 ≡ Some c.1) cs → AllByRecursion (λ (c : Name × DataType). (has wanted c.0 ≡ true) × (is_type (type_of file c.0) c.1 ≡ true)) cs
    each [] own = tt
    each (c ∷ cs) own =
        let i : has wanted c.0 ≡ true = sym (h.named c.0) ∙ sym (some-type_of out c.0) ∙ ap is_some own.0 in
        ((i, ap (λ (o : Option DataType). is_type o c.1) (sym (h.typed c.0 i) ∙ own.0) ∙ some_type_is c.1), each cs own.1)

-- what is put out by what is left of a scan
pub left_puts_out : (kind : FileScan) (wanted reads : List Name) (reader : Columns) (hive : Option (List Stats)) (options : FileScanOptions) → AreDistinct wanted → AreAmong wanted (names_of (file_columns reader (hive_columns hive) options)) → AreDistinct (names_of (file_columns reader (hive_columns hive) options)) → AreNamed wanted (columns_left wanted reads reader hive options) (left_output (in_file_order kind hive options) options.include_file_paths wanted (columns_left wanted reads reader hive options))
left_puts_out kind wanted reads reader hive options once among differ =
    output_named (in_file_order kind hive options) options.include_file_paths (columns_left wanted reads reader hive options) wanted once
    (left_differ wanted reader hive reads options differ)
    (λ a i. ap is_some (left_types wanted reader hive reads options a i) ∙ some-type_of (file_columns reader (hive_columns hive) options) a ∙ among a i)
