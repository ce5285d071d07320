-- The parts of a valid scan fit, and what it puts out are columns of its files.
use Rattle.std.proofs.Common.{◌≡◌, ℕ, suc, ◌&&◌, Bool, true, false, cond, List, [], ◌∷◌, length, map, Option, Some, None, unwrap_or, is_some, refl, sym, ap, ◌∙◌, subst, arith}
use Rattle.std.specs.List.{AllByRecursion, IsDistinct, list_all}
use Rattle.std.specs.Str.{bytes_eq}
use Rattle.std.proofs.lemmas.Bool.{and_parts, eqb-true}
use Rattle.plan_core.specs.declared.data_type.DataType.{DataType}
use Rattle.plan_core.specs.declared.error.PolarsError.TheVariants.{SchemaMismatch}
use Rattle.plan_core.specs.declared.options.FileScanOptions.{FileScanOptions}
use Rattle.plan_core.specs.Columns.{Columns, HasDistinctNames, names_of, same_columns, type_of}
use Rattle.plan_expr.specs.Exprs.{Named}
use Rattle.plan_expr.specs.Leaves.{Name}
use Rattle.plan_frame.specs.Frames.{Frame, HoldsAll}
use Rattle.plan_frame.proofs.FrameLemmas.{is_type_some}
use Rattle.plan_frame.proofs.NameSets.{named, same_named}
use Rattle.plan_scan.specs.Source.{Source as ScanSource}
use Rattle.plan_scan.specs.Stats.{Stats, columns_of}
use Rattle.plan_files.specs.FileColumns.{hive_columns}
use Rattle.plan_files.specs.HiveParts.{are_alike, are_one_each, are_typed}
use Rattle.plan_file_scan.specs.FileFrames.{PartFits, no_frame, parts_of}
use Rattle.plan_ir.specs.declared.scan.FileInfo.{FileInfo}
use Rattle.plan_meaning.specs.Checks.{is_column, is_none}
use Rattle.plan_meaning.specs.Contents.{Contents, HasFrame, Source, frame_or, place_of}
use Rattle.plan_meaning.specs.Typing.{columns_or, is_built_scan, is_number_or_read, put_out_checks, AllHold}
use Rattle.plan_meaning.proofs.CheckParts.{each_pass, same_is}

-- each of columns whose names differ has its own type
own_types : (file : Columns) → HasDistinctNames file → AllByRecursion (λ (c : Name × DataType). type_of file c.0 ≡ Some c.1) file
unfolding IsDistinct
own_types [] d = tt
own_types (c ∷ file) d = (rw (same_named c.0) refl, later file d.0 (own_types file d.1))
  where
    past : (x : Name × DataType) → bytes_eq c.0 x.0 ≡ false → type_of file x.0 ≡ Some x.1 → type_of (c ∷ file) x.0 ≡ Some x.1
    past x far is = at (bytes_eq x.0 c.0) refl
      where
        at : (b : Bool) → bytes_eq x.0 c.0 ≡ b → cond b (Some c.1) (type_of file x.0) ≡ Some x.1
        at true e = let same : bytes_eq c.0 x.0 ≡ true = ap (bytes_eq c.0) (named x.0 c.0 e) ∙ same_named c.0 in cc
        at false e = is

    later : (cs : Columns) → AllByRecursion (λ (y : Name). bytes_eq c.0 y ≡ false) (names_of cs) → AllByRecursion (λ (x : Name × DataType). type_of file x.0 ≡ Some x.1) cs → AllByRecursion (λ (x : Name × DataType). type_of (c ∷ file) x.0 ≡ Some x.1) cs
    later [] far is = tt
    later (x ∷ cs) far is = (past x far.0 is.0, later cs far.1 is.1)

-- what a scan puts out are columns of its files
pub out_typed : (output : Option Columns) (told : Option (List Name)) (row plain file : Columns) → HasDistinctNames file → AllHold (put_out_checks output told row plain file) → AllByRecursion (λ (c : Name × DataType). type_of file c.0 ≡ Some c.1) (columns_or output file)
unfolding put_out_checks
out_typed None told row plain file d h = own_types file d
out_typed (Some out) told row plain file d h = typed out (each_pass SchemaMismatch 1 (λ (c : Name × DataType). is_column file c && is_number_or_read row told plain c.0) out h)
  where
    typed : (cs : Columns) → AllByRecursion (λ (c : Name × DataType). (is_column file c && is_number_or_read row told plain c.0) ≡ true) cs → AllByRecursion (λ (c : Name × DataType). type_of file c.0 ≡ Some c.1) cs
    typed [] h = tt
    typed (c ∷ cs) h = (is_type_some (type_of file c.0) c.1 (and_parts (is_column file c) (is_number_or_read row told plain c.0) h.0).0, typed cs h.1)

-- the table of a source holds the columns that the reader finds
source_holds : (c : Contents) (reader : Columns) (s : Source) → HasFrame c reader s → HoldsAll (frame_or c s) reader
source_holds c reader s h = subst (λ (g : Frame). HoldsAll g reader) (sym (ap (λ (o : Option Frame). unwrap_or o no_frame) h.found)) h.holds

-- sources without hive parts
bare_fit : (c : Contents) (reader : Columns) (ss : List ScanSource) → AllByRecursion (HasFrame c reader) (map place_of ss) → AllByRecursion (PartFits reader []) (parts_of None ss (map (frame_or c) (map place_of ss)))
bare_fit c reader [] h = tt
bare_fit c reader (s ∷ ss) h = (record { columns = refl; typed = refl; holds = source_holds c reader (place_of s) h.0 }, bare_fit c reader ss h.1)

one_less : {m n : ℕ} → suc m ≡ suc n → m ≡ n
one_less e = omega (arith, e)

-- sources with hive parts that have some columns
hive_fit : (c : Contents) (reader hive : Columns) (parts : List Stats) (ss : List ScanSource) → length parts ≡ length ss → list_all (λ (part : Stats). same_columns hive (columns_of part) && are_typed part) parts ≡ true → AllByRecursion (HasFrame c reader) (map place_of ss) → AllByRecursion (PartFits reader hive) (parts_of (Some parts) ss (map (frame_or c) (map place_of ss)))
hive_fit c reader hive [] [] l alike h = tt
hive_fit c reader hive [] (s ∷ ss) l alike h = cc
hive_fit c reader hive (part ∷ parts) [] l alike h = tt
hive_fit c reader hive (part ∷ parts) (s ∷ ss) l alike h =
    let p = and_parts (same_columns hive (columns_of part) && are_typed part) (list_all (λ (x : Stats). same_columns hive (columns_of x) && are_typed x) parts) alike in
    let own = and_parts (same_columns hive (columns_of part)) (are_typed part) p.0 in
    (record { columns = sym (same_is hive (columns_of part) own.0); typed = own.1; holds = source_holds c reader (place_of s) h.0 }, hive_fit c reader hive parts ss (one_less l) p.1 h.1)

-- the parts of a valid scan fit
pub parts_fit : (c : Contents) (reader : Columns) (hive : Option (List Stats)) (ss : List ScanSource) → are_one_each hive (length ss) ≡ true → are_alike hive ≡ true → AllByRecursion (HasFrame c reader) (map place_of ss) → AllByRecursion (PartFits reader (hive_columns hive)) (parts_of hive ss (map (frame_or c) (map place_of ss)))
parts_fit c reader None ss one alike h = bare_fit c reader ss h
parts_fit c reader (Some []) ss one alike h = cc
parts_fit c reader (Some (part ∷ parts)) ss one alike h = hive_fit c reader (columns_of part) (part ∷ parts) ss (eqb-true (length (part ∷ parts)) (length ss) one) alike h

-- the form of a scan that is built has a part for each source
pub built_one : (sources : ℕ) (predicate : Option Named) (info : FileInfo) (hive : Option (List Stats)) (options : FileScanOptions) → is_built_scan sources predicate info hive options ≡ true → are_one_each hive sources ≡ true
unfolding is_built_scan
built_one sources predicate info hive options h =
    (and_parts (is_some info.reader_schema && is_none predicate && is_none options.slice) (are_one_each hive sources) h).1
