-- The checks on a scan, by the columns of its files of each name the first.
use Rattle.std.proofs.Common.{◌≡◌, ◌↔◌, ◌&&◌, ℕ, suc, Bool, true, false, not, List, [], ◌∷◌, ◌++◌, length, Option, Some, None, is_some, refl, sym, ap, ap₂, ◌∙◌, subst, append-nil}
use Rattle.std.specs.Prelude.{IsTrue}
use Rattle.plan_core.specs.declared.arena.Node.{Node}
use Rattle.plan_core.specs.declared.data_type.DataType.{DataType}
use Rattle.plan_core.specs.declared.error.PolarsError.TheVariants.{Duplicate, SchemaFieldNotFound, SchemaMismatch}
use Rattle.plan_core.specs.declared.options.FileScanOptions.{FileScanOptions}
use Rattle.plan_core.specs.Columns.{Columns, HasDistinctNames, names_of, same_columns, type_of}
use Rattle.plan_core.specs.Names.{has, AreDistinct}
use Rattle.plan_expr.specs.Exprs.{Named}
use Rattle.plan_expr.specs.Leaves.{Name}
use Rattle.plan_files.specs.FileColumns.{hive_columns, plain_columns}
use Rattle.plan_files.specs.HiveParts.{are_alike}
use Rattle.plan_frame.specs.Beside.{side_by_side}
use Rattle.plan_frame.specs.Exprs.{is_type}
use Rattle.plan_frame.specs.Frames.{names_or}
use Rattle.plan_frame.proofs.BesideLemmas.{beside-distinct, type_of-beside}
use Rattle.plan_ir.specs.declared.scan.FileInfo.{FileInfo}
use Rattle.plan_meaning.specs.Checks.{Check, check, each, each_new, is_known}
use Rattle.plan_meaning.specs.Functions.{all_differ}
use Rattle.plan_meaning.specs.Typing.{at, columns_or, differ_checks, first_fault, is_number_or_read, or_fault, put_out_checks, scan_checks, scan_column_checks, scan_columns, scan_name_checks, scan_type_checks, schema_checks}
use Rattle.plan_meaning.proofs.CheckParts.{same_is, scan_good}
use Rattle.plan_meaning.proofs.JoinLemmas.{differ_distinct, distinct_differ}
use Rattle.plan_meaning.proofs.Validity.{all_hold_unless}
use Rattle.plan_schema.proofs.CheckLemmas.{fault_append}
use Rattle.plan_check_parts.proofs.EachLemmas.{differ_none, each-same}
use Rattle.plan_scan.specs.Stats.{Stats}

-- of each name the first column has the type that it has among all
first-type : (files : Columns) (a : Name) → type_of (side_by_side (files ∷ [])) a ≡ type_of files a
first-type files a = type_of-beside (files ∷ []) a ∙ ap (λ (cs : Columns). type_of cs a) (append-nil files)

-- columns that differ are of each name the first
first-all : (files : Columns) → HasDistinctNames files → side_by_side (files ∷ []) ≡ files
first-all files d = beside-distinct (files ∷ []) (subst (λ (cs : Columns). AreDistinct (names_of cs)) (sym (append-nil files)) d) ∙ append-nil files

-- columns of which some have one name don't all differ
not_differ : (cs : Columns) → (HasDistinctNames cs → false ≡ true) → all_differ (names_of cs) ≡ false
not_differ cs h = at (all_differ (names_of cs)) refl
  where
    at : (b : Bool) → all_differ (names_of cs) ≡ b → b ≡ false
    at true e = let u = h (differ_distinct (names_of cs) e) in cc
    at false e = refl

-- whether the columns of files differ

pub files_differ : (n : Node) (differ : Bool) (files : Columns) → differ ≡ true → (IsTrue differ ↔ HasDistinctNames files) → first_fault n (differ_checks files) ≡ None
files_differ n differ files e h = differ_none n files (h.0 e)

pub files_repeat : (n : Node) (differ : Bool) (files : Columns) → differ ≡ false → (IsTrue differ ↔ HasDistinctNames files) → first_fault n (differ_checks files) ≡ Some (Duplicate (at n 0))
unfolding differ_checks
files_repeat n differ files e h = rw (not_differ files (λ d. sym e ∙ h.1 d)) refl

-- whether the stored columns are those of files

-- a check at place 0
one_fault : (n : Node) (b : Bool) → b ≡ false → first_fault n (check SchemaMismatch 0 b ∷ []) ≡ Some (SchemaMismatch (at n 0))
one_fault n b e = rw e refl

no_fault : (n : Node) (b : Bool) → b ≡ true → first_fault n (check SchemaMismatch 0 b ∷ []) ≡ None
no_fault n b e = rw e refl

and_false : (b : Bool) → (b && false) ≡ false
and_false true = refl
and_false false = refl

pub files_stored : (n : Node) (differ : Bool) (stored found files : Columns) → differ ≡ true → same_columns stored found ≡ true → found ≡ side_by_side (files ∷ []) → (IsTrue differ ↔ HasDistinctNames files) → first_fault n (schema_checks stored files) ≡ None
unfolding schema_checks
files_stored n differ stored found files e same is h =
    let d : HasDistinctNames files = h.0 e in
    no_fault n _ (ap₂ (λ (x y : Bool). x && y) (ap (same_columns stored) (sym (is ∙ first-all files d)) ∙ same) (distinct_differ (names_of files) d))

pub files_apart : (n : Node) (differ : Bool) (stored found files : Columns) → differ ≡ true → same_columns stored found ≡ false → found ≡ side_by_side (files ∷ []) → (IsTrue differ ↔ HasDistinctNames files) → first_fault n (schema_checks stored files) ≡ Some (SchemaMismatch (at n 0))
unfolding schema_checks
files_apart n differ stored found files e other is h =
    let d : HasDistinctNames files = h.0 e in
    one_fault n _ (ap (λ (b : Bool). b && all_differ (names_of files)) (ap (same_columns stored) (sym (is ∙ first-all files d)) ∙ other))

pub files_twice : (n : Node) (differ : Bool) (stored files : Columns) → differ ≡ false → (IsTrue differ ↔ HasDistinctNames files) → first_fault n (schema_checks stored files) ≡ Some (SchemaMismatch (at n 0))
unfolding schema_checks
files_twice n differ stored files e h =
    one_fault n _ (ap (λ (b : Bool). same_columns stored files && b) (not_differ files (λ d. sym e ∙ h.1 d)) ∙ and_false (same_columns stored files))

-- checks that use types alone

module _ (found files : Columns) (is : found ≡ side_by_side (files ∷ [])) where
  same-type : (a : Name) → type_of found a ≡ type_of files a
  same-type a = ap (λ (cs : Columns). type_of cs a) is ∙ first-type files a

  names_same : (outs : Columns) (told : List Name) (reader : Columns) → scan_name_checks outs told found reader ≡ scan_name_checks outs told files reader
  unfolding scan_name_checks
  names_same outs told reader =
      ap (λ (cs : List Check). cs ++ each SchemaFieldNotFound (suc (length outs)) (is_known reader) told)
      (each-same SchemaFieldNotFound 1 _ _ outs (λ (c : Name × DataType). ap (λ (o : Option DataType). is_some o) (same-type c.0)))

  put_out_files : (output : Option Columns) (told : Option (List Name)) (row plain : Columns) → put_out_checks output told row plain found ≡ put_out_checks output told row plain files
  unfolding put_out_checks
  put_out_files None told row plain = refl
  put_out_files (Some output) told row plain =
      each-same SchemaMismatch 1 _ _ output (λ (c : Name × DataType). ap (λ (o : Option DataType). is_type o c.1 && is_number_or_read row told plain c.0) (same-type c.0))

  types_same : (output : Option Columns) (told : Option (List Name)) (hive : Option (List Stats)) (row reader : Columns) → scan_type_checks output told hive row reader found ≡ scan_type_checks output told hive row reader files
  unfolding scan_type_checks
  types_same output told hive row reader =
      let own : List Check = each SchemaMismatch (suc (length (columns_or output []))) (λ (a : Name). not (has (names_of (hive_columns hive)) a)) (names_or told []) in
      ap (λ (cs : List Check). check SchemaMismatch 0 (are_alike hive) ∷ (cs ++ own)) (put_out_files output told row (plain_columns reader (hive_columns hive)))

  -- the first fault of the columns of a scan, by the checks on them, one after another
  pub columns_fault : (n : Node) (output : Option Columns) (told : Option (List Name)) (hive : Option (List Stats)) (stored row reader : Columns) → first_fault n (scan_column_checks output told hive stored row reader files) ≡ or_fault (first_fault n (scan_name_checks (columns_or output []) (names_or told []) found reader)) (or_fault (first_fault n (scan_type_checks output told hive row reader found)) (or_fault (first_fault n (differ_checks (columns_or output files))) (or_fault (first_fault n (each_new (suc (length (columns_or output []))) [] (names_or told []))) (first_fault n (schema_checks stored files)))))
  unfolding scan_column_checks
  columns_fault n output told hive stored row reader =
      let a : List Check = scan_name_checks (columns_or output []) (names_or told []) files reader in
      let b : List Check = scan_type_checks output told hive row reader files in
      let c : List Check = differ_checks (columns_or output files) in
      let d : List Check = each_new (suc (length (columns_or output []))) [] (names_or told []) in
      let e : List Check = schema_checks stored files in
      fault_append n a (b ++ (c ++ (d ++ e)))
      ∙ ap₂ or_fault (ap (first_fault n) (sym (names_same (columns_or output []) (names_or told []) reader)))
      (fault_append n b (c ++ (d ++ e))
      ∙ ap₂ or_fault (ap (first_fault n) (sym (types_same output told hive row reader)))
      (fault_append n c (d ++ e) ∙ ap (or_fault (first_fault n c)) (fault_append n d e)))

-- what a scan without a fault puts out is what it stores, where it doesn't say what that is
pub stored_columns : (n : Node) (sources : ℕ) (predicate : Option Named) (output : Option Columns) (info : FileInfo) (hive : Option (List Stats)) (options : FileScanOptions) → first_fault n (scan_checks sources predicate output info hive options) ≡ None → columns_or output info.schema ≡ columns_or output (scan_columns info hive options)
stored_columns n sources predicate (Some output) info hive options e = refl
stored_columns n sources predicate None info hive options e =
    same_is info.schema (scan_columns info hive options) (scan_good sources predicate None info hive options (all_hold_unless n (scan_checks sources predicate None info hive options) e)).stored
