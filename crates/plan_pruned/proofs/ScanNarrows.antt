-- What is left of a scan that is asked names narrows it, under a projection of them and without it.
use Rattle.std.proofs.Common.{◌≡◌, ℕ, suc, ◌&&◌, ◌||◌, Bool, true, false, not, List, [], ◌∷◌, ◌++◌, length, replicate, Option, Some, None, unwrap_or, refl, sym, ap, ◌∙◌, subst, is_some, append-nil}
use Rattle.std.specs.List.{AllByRecursion}
use Rattle.std.proofs.lemmas.Bool.{and_parts, false_from_ne_true}
use Rattle.plan_core.specs.declared.data_type.DataType.{DataType}
use Rattle.plan_core.specs.declared.options.FileScanOptions.{FileScanOptions}
use Rattle.plan_core.specs.declared.error.PolarsError.TheVariants.{SchemaMismatch}
use Rattle.plan_core.specs.Columns.{Columns, names_of, type_of}
use Rattle.plan_core.specs.Names.{has, AreDistinct}
use Rattle.plan_expr.specs.Exprs.{Named}
use Rattle.plan_expr.specs.Leaves.{Name}
use Rattle.plan_frame.specs.Frames.{Frame, HasSchema, cut, column_or, Agree}
use Rattle.plan_frame.specs.Values.{Value, null}
use Rattle.plan_frame.proofs.BesideLemmas.{beside-distinct}
use Rattle.plan_frame.proofs.FrameLemmas.{found-table, schema_holds, weaker}
use Rattle.plan_frame.proofs.NameSets.{some-type_of}
use Rattle.plan_scan.specs.Sources.{sources_of}
use Rattle.plan_scan.specs.Stats.{Stats}
use Rattle.plan_scan.specs.declared.file_scan.FileScan.{FileScan}
use Rattle.plan_scan.specs.declared.sources.ScanSources.{ScanSources}
use Rattle.plan_files.specs.FileColumns.{hive_columns, plain_columns, row_columns}
use Rattle.plan_file_scan.specs.FileFrames.{parts_of, scan_frame}
use Rattle.plan_ir.specs.declared.scan.FileInfo.{FileInfo}
use Rattle.plan_ir.specs.Plans.{Op, scan, simple_projection}
use Rattle.plan_meaning.specs.Asked.{Fair}
use Rattle.plan_meaning.specs.Checks.{is_empty, is_known, is_column}
use Rattle.plan_meaning.specs.Contents.{Contents, frames_of}
use Rattle.plan_meaning.specs.Relating.{names, Holding}
use Rattle.plan_meaning.specs.Steps.{Step}
use Rattle.plan_meaning.specs.Typing.{columns_or, is_built_scan, is_number_or_read, put_out_checks, reader_columns, scan_columns, checks, AllHold}
use Rattle.plan_meaning.proofs.AskedSets.{columns_good, has_some, known_some, some_name}
use Rattle.plan_meaning.proofs.CheckParts.{each_pass, pass_each, is_same, pass_names, ScanGood, scan_good, good_scan}
use Rattle.plan_meaning.proofs.JoinLemmas.{differ_distinct, distinct_differ}
use Rattle.plan_file_scan.specs.Left.{AreNamed, columns_left, in_file_order, left_options, left_output, left_parts, left_row}
use Rattle.plan_file_scan.proofs.LeftFrames.{frames_agree}
use Rattle.plan_file_scan.proofs.LeftOutput.{named_columns, output_named}
use Rattle.plan_file_scan.proofs.ScanColumns.{alike-left, hive-left, hive_among, left_differ, left_types, one_each-left}
use Rattle.plan_file_scan.proofs.ScanReads.{left_found, left_once, left_reads}
use Rattle.plan_pruned.specs.Pruned.{left_scan, reads_left, scan_columns_left, typed_names}
use Rattle.plan_pruned.proofs.NarrowLemmas.{Local, AgreeOnAll}
use Rattle.plan_pruned.proofs.ProjectionNarrows.{some_is}
use Rattle.plan_pruned.proofs.TypedNames.{all_typed, new_from, typed_named}

-- the types of what a scan puts out are those of its files

first_parts : (file : Columns) (told : Option (List Name)) (row plain cs : Columns) → AllByRecursion (λ (c : Name × DataType). (is_column file c && is_number_or_read row told plain c.0) ≡ true) cs → AllByRecursion (λ (c : Name × DataType). is_column file c ≡ true) cs
first_parts file told row plain [] h = tt
first_parts file told row plain (c ∷ cs) h = ((and_parts (is_column file c) (is_number_or_read row told plain c.0) h.0).0, first_parts file told row plain cs h.1)

out_typed : (output : Option Columns) (told : Option (List Name)) (row plain file : Columns) (a : Name) (t : DataType) → AllHold (put_out_checks output told row plain file) → type_of (columns_or output file) a ≡ Some t → type_of file a ≡ Some t
unfolding put_out_checks
out_typed None told row plain file a t h e = e
out_typed (Some out) told row plain file a t h e = all_typed file out a t (first_parts file told row plain out (each_pass SchemaMismatch 1 (λ (c : Name × DataType). is_column file c && is_number_or_read row told plain c.0) out h)) e

-- the checks on what is left

left_put_out : (out : Columns) (reads : List Name) (row plain file : Columns) → AllByRecursion (λ (c : Name × DataType). (is_column file c && is_number_or_read row (Some reads) plain c.0) ≡ true) out → AllHold (put_out_checks (Some out) (Some reads) row plain file)
unfolding put_out_checks
left_put_out out reads row plain file h = pass_each SchemaMismatch 1 (λ (c : Name × DataType). is_column file c && is_number_or_read row (Some reads) plain c.0) out h

left_built : (sources : ℕ) (predicate : Option Named) (wanted : List Name) (info : FileInfo) (file : Columns) (hive : Option (List Stats)) (kind : FileScan) (options : FileScanOptions) → is_built_scan sources predicate info hive options ≡ true → is_built_scan sources predicate (record info { schema = file }) (left_parts wanted hive) (left_options wanted (reads_left wanted info hive kind options) options) ≡ true
unfolding is_built_scan
left_built sources predicate wanted info file hive kind options h =
    ap (λ (b : Bool). is_some info.reader_schema && not (is_some predicate) && not (is_some options.slice) && b) (one_each-left wanted hive sources) ∙ h

both_true : (x y : Bool) → x ≡ true → y ≡ true → (x && y) ≡ true
both_true true y e f = f
both_true false y e f = cc

or_true : (x : Bool) {y : Bool} → y ≡ true → (x || y) ≡ true
or_true true e = refl
or_true false e = e

module _ (sources : ScanSources) (info : FileInfo) (hive : Option (List Stats)) (predicate : Option Named) (output : Option Columns) (kind : FileScan) (options : FileScanOptions) (wanted : List Name) where
  abbrev reader : Columns
  reader = reader_columns info

  abbrev file : Columns
  file = scan_columns info hive options

  abbrev left : Columns
  left = columns_left wanted (reads_left wanted info hive kind options) (reader_columns info) hive options

  abbrev few : Columns
  few = hive_columns (left_parts wanted hive)

  abbrev row-left : Columns
  row-left = row_columns (left_row wanted options.row_index)

  abbrev reads : List Name
  reads = reads_left wanted info hive kind options

  abbrev out : Columns
  out = left_output (in_file_order kind hive options) options.include_file_paths wanted left

  abbrev top : Columns
  top = typed_names left wanted

  -- what is left of the scan, where these are the columns of its files
  abbrev over : Columns → Op
  over columns =
      scan sources (record info { schema = columns }) (left_parts wanted hive) predicate
      (Some (left_output (in_file_order kind hive options) options.include_file_paths wanted columns)) kind (left_options wanted (reads_left wanted info hive kind options) options)

  module _ (good : AllHold (checks (scan sources info hive predicate output kind options) [])) (fair : Fair wanted (columns_or output (scan_columns info hive options))) where
    parts : ScanGood (length (sources_of sources)) predicate output info hive options
    parts = scan_good (length (sources_of sources)) predicate output info hive options good

    -- an asked name has one type in what is put out and in the files
    typed : (a : Name) → has wanted a ≡ true → (t : DataType) × (type_of (columns_or output file) a ≡ Some t) × (type_of file a ≡ Some t)
    typed a i =
        let t = some_is (type_of (columns_or output file) a) (fair.known a i) in
        (t.0, t.1, out_typed output options.with_columns (row_columns options.row_index) (plain_columns reader (hive_columns hive)) file a t.0 parts.put_out t.1)

    known : (a : Name) → has wanted a ≡ true → is_some (type_of file a) ≡ true
    known a i = ap is_some (typed a i).2

    file-once : AreDistinct (names_of file)
    file-once = differ_distinct (names_of file) parts.apart

    -- and in the columns that are left
    type-left : (a : Name) → has wanted a ≡ true → type_of left a ≡ type_of file a
    type-left a i = left_types wanted reader hive reads options a i

    known-left : (a : Name) → has wanted a ≡ true → is_some (type_of left a) ≡ true
    known-left a i = ap is_some (type-left a i) ∙ known a i

    left-once : AreDistinct (names_of left)
    left-once = left_differ wanted reader hive reads options file-once

    out-named : AreNamed wanted left out
    out-named = output_named (in_file_order kind hive options) options.include_file_paths left wanted fair.once left-once known-left

    top-named : AreNamed wanted left top
    top-named = typed_named left wanted fair.once known-left

    out-columns : AllByRecursion (λ (c : Name × DataType). (has wanted c.0 ≡ true) × (is_column left c ≡ true)) out
    out-columns = named_columns wanted left out out-named

    abbrev Asked : Name × DataType → Type 0
    Asked c = (has wanted c.0 ≡ true) × (is_column left c ≡ true)

    -- what is read is found by the reader, and is no hive column that is left
    found : (a : Name) → has reads a ≡ true → (is_known reader a ≡ true) × (not (has (names_of few) a) ≡ true)
    found a i =
        let q = left_found wanted kind options.with_columns reader (hive_columns hive) options known parts.told parts.plain a i in
        (q.0, ap not (hidden q.1))
      where
        no : (b : Bool) → b ≡ true → not b ≡ true → ⊥
        no true p q = cc
        no false p q = cc

        hidden : not (has (names_of (hive_columns hive)) a) ≡ true → has (names_of few) a ≡ false
        hidden p = false_from_ne_true (has (names_of few) a) (λ (j : has (names_of few) a ≡ true). no (has (names_of (hive_columns hive)) a) (hive_among wanted hive a j) p)

    -- the columns that are left are all different, so that all of them are the first of their name
    columns-left : scan_columns_left wanted info hive kind options ≡ left
    columns-left = let e : left ++ [] ≡ left = append-nil left in beside-distinct (left ∷ []) (subst (λ (cs : Columns). AreDistinct (names_of cs)) (sym e) left-once) ∙ e

    over_good : AllHold (checks (over left) [])
    over_good = good_scan (length (sources_of sources)) predicate (Some out) (record info { schema = left }) (left_parts wanted hive) (left_options wanted reads options) (record {
      built = left_built (length (sources_of sources)) predicate wanted info left hive kind options parts.built;
      known = weaker Asked (λ (c : Name × DataType). is_known left c.0 ≡ true) out (λ c h. known_some left c h.1) out-columns;
      told = pass_names (λ (a : Name). is_known reader a ≡ true) reads (λ a i. (found a i).0);
      alike = alike-left wanted hive parts.alike;
      put_out = left_put_out out reads row-left (plain_columns reader few) left
          (weaker Asked (λ (c : Name × DataType). (is_column left c && is_number_or_read row-left (Some reads) (plain_columns reader few) c.0) ≡ true) out (λ c h.
          both_true (is_column left c) (is_number_or_read row-left (Some reads) (plain_columns reader few) c.0) h.1
          (or_true (has (names_of row-left) c.0) (left_reads wanted kind options.with_columns reader (hive_columns hive) options few (hive-left wanted hive) file-once c.0 h.0))) out-columns);
      plain = pass_names (λ (a : Name). not (has (names_of few) a) ≡ true) reads (λ a i. (found a i).1);
      differ = distinct_differ (names_of out) out-named.once;
      once = new_from (suc (length out)) [] reads (λ a i. refl) (left_once wanted kind options.with_columns reader (hive_columns hive) options fair.once);
      stored = is_same left left refl;
      apart = distinct_differ (names_of left) left-once;
    })

    -- columns that are named so narrow what was put out
    named-holds : (cs : Columns) → AreNamed wanted left cs → Holding wanted cs (columns_or output file)
    named-holds cs h = record {
      held = λ a i. let t = typed a i in (t.0, h.typed a i ∙ type-left a i ∙ t.2, t.1);
      within = λ a e. fair.known a (sym (h.named a) ∙ sym (some-type_of cs a) ∙ e);
    }

    out-name : (a : Name) → has wanted a ≡ true → has (names_of (columns_or output file)) a ≡ true
    out-name a i = sym (some-type_of (columns_or output file) a) ∙ fair.known a i

    over-step : (c : Contents) (fs gs : List Frame) (f : Frame) → AgreeOnAll [] fs gs → Step c (over left) fs f → (g : Frame) × Step c (scan sources info hive predicate output kind options) gs g × Agree wanted f g
    over-step c [] [] f ag st =
        let g : Frame = scan_frame (names_of (columns_or output file)) options (parts_of hive (sources_of sources) (frames_of c sources)) in (
          g,
          refl,
          subst (λ (x : Frame). Agree wanted x g) (sym st)
              (frames_agree wanted reads (names_of out) (names_of (columns_or output file)) hive options (sources_of sources) (frames_of c sources) (λ a i. out-named.named a ∙ i) out-name),
        )
    over-step c (f0 ∷ fs) gs f ag st = absurd ag
    over-step c [] (g0 ∷ gs) f ag st = absurd ag

    over_local : Local (over left) (scan sources info hive predicate output kind options) [] (names wanted) [] []
    over_local = record {
      good = over_good;
      schema = named-holds out out-named;
      fits = λ c k. k;
      step = λ c fs gs f k hr has ag st. over-step c fs gs f ag st;
    }

    -- what is left of the scan narrows it at the asked names
    pub local_scan : Local (left_scan wanted sources info hive predicate kind options) (scan sources info hive predicate output kind options) [] (names wanted) [] []
    local_scan = subst (λ (cs : Columns). Local (over cs) (scan sources info hive predicate output kind options) [] (names wanted) [] []) (sym columns-left) over_local

    -- a projection of the asked names on top is valid
    over_top : AllHold (checks (simple_projection top) (out ∷ []))
    over_top = columns_good out top (some top named-some) top-named.once
        (weaker (λ (c : Name × DataType). (has wanted c.0 ≡ true) × (is_column out c ≡ true)) (λ (c : Name × DataType). is_column out c ≡ true) top (λ c h. h.1)
        (named_columns wanted out top (record { named = top-named.named; typed = λ a i. top-named.typed a i ∙ sym (out-named.typed a i); once = top-named.once })))
      where
        some : (cs : Columns) → is_empty (names_of cs) ≡ false → is_empty cs ≡ false
        some [] e = e
        some (c ∷ cs) e = refl

        named-some : is_empty (names_of top) ≡ false
        named-some = let a = has_some wanted fair.some in some_name (names_of top) a.0 (top-named.named a.0 ∙ a.1)

    pub top_good : AllHold (checks (simple_projection (typed_names (scan_columns_left wanted info hive kind options) wanted)) (left_output (in_file_order kind hive options) options.include_file_paths wanted (scan_columns_left wanted info hive kind options) ∷ []))
    top_good = subst (λ (cs : Columns). AllHold (checks (simple_projection (typed_names cs wanted)) (left_output (in_file_order kind hive options) options.include_file_paths wanted cs ∷ []))) (sym columns-left) over_top

    -- its columns narrow what was put out
    pub top_holds : Holding wanted (typed_names (scan_columns_left wanted info hive kind options) wanted) (columns_or output (scan_columns info hive options))
    top_holds = subst (λ (cs : Columns). Holding wanted (typed_names cs wanted) (columns_or output file)) (sym columns-left) (named-holds top top-named)

    -- and it gives the asked columns again
    again : (f g h : Frame) → HasSchema g (columns_or output file) → Agree wanted f g → h ≡ cut (names_of top) f → Agree wanted h g
    again f g h has' ag st = subst (λ (x : Frame). Agree wanted x g) (sym st) (record {
      height = ag.height;
      same = λ a i.
          let held = schema_holds g (columns_or output file) a (typed a i).0 has' (typed a i).1 in
          let here : column_or f a ≡ held.0 = ap (λ (o : Option (List Value)). unwrap_or o (replicate f.height null)) (ag.same a i ∙ held.1) in
          found-table (column_or f) (names_of top) a (top-named.named a ∙ i) ∙ ap (λ (x : List Value). Some x) here ∙ sym held.1;
    })

    pub top_agrees : (f g h : Frame) → HasSchema g (columns_or output (scan_columns info hive options)) → Agree wanted f g → h ≡ cut (names_of (typed_names (scan_columns_left wanted info hive kind options) wanted)) f → Agree wanted h g
    top_agrees f g h has' ag st = again f g h has' ag (st ∙ ap (λ (cs : Columns). cut (names_of (typed_names cs wanted)) f) columns-left)
