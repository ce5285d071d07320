-- What it takes that the checks on a node hold, part by part.
use Rattle.std.proofs.Common.{◌≡◌, ℕ, suc, Bool, true, not, ◌&&◌, ◌||◌, List, [], ◌∷◌, ◌++◌, length, Option, refl, sym, ap, ◌∙◌, subst, is_some, ⊎_elim}
use Rattle.std.specs.List.{AllByRecursion}
use Rattle.std.proofs.lemmas.Bool.{and_parts}
use Rattle.plan_core.specs.declared.error.At.{At}
use Rattle.plan_core.specs.declared.error.PolarsError.{PolarsError}
use Rattle.plan_core.specs.declared.error.PolarsError.TheVariants.{InvalidOperation, SchemaFieldNotFound, SchemaMismatch}
use Rattle.plan_core.specs.declared.options.FileScanOptions.{FileScanOptions}
use Rattle.plan_core.specs.Columns.{Columns, names_of, type_of, same_columns}
use Rattle.plan_core.specs.Names.{has}
use Rattle.plan_core.proofs.SameLemmas.{same_columns-Decides}
use Rattle.plan_files.specs.FileColumns.{hive_columns, plain_columns, row_columns}
use Rattle.plan_files.specs.HiveParts.{are_alike}
use Rattle.plan_scan.specs.Stats.{Stats}
use Rattle.plan_ir.specs.declared.scan.FileInfo.{FileInfo}
use Rattle.plan_expr.specs.Exprs.{Named}
use Rattle.plan_expr.specs.Forms.{has_form}
use Rattle.plan_core.specs.declared.data_type.DataType.{DataType}
use Rattle.plan_expr.specs.Leaves.{Name, leaves}
use Rattle.plan_expr.specs.Naming.{naming, may_be_named}
use Rattle.plan_frame.specs.Exprs.{all_known, expr_type}
use Rattle.plan_meaning.specs.Checks.{Check, check, each, each_new, is_known, is_column, is_empty, form_checks, leaf_checks, type_checks, once_checks, stored_checks, naming_checks, plain_checks, is_plain_type}
use Rattle.plan_meaning.specs.Typing.{columns_or, reader_columns, scan_columns, put_out_checks, scan_name_checks, scan_type_checks, schema_checks, is_built_scan, scan_column_checks, scan_checks, frame_checks, number_checks, differ_checks, projection_checks, made_checks, key_checks, AllHold}
use Rattle.plan_meaning.specs.Functions.{all_differ}
use Rattle.plan_frame.specs.Frames.{names_or}
use Rattle.plan_frame.specs.Made.{made_schema}
use Rattle.plan_frame.specs.ExprLists.{out_names}
use Rattle.plan_frame.proofs.NameSets.{has_cons, has_first, has_later}

pub hold_front : (xs ys : List Check) → AllHold (xs ++ ys) → AllHold xs
hold_front [] ys h = tt
hold_front (x ∷ xs) ys h = (h.0, hold_front xs ys h.1)

pub hold_back : (xs ys : List Check) → AllHold (xs ++ ys) → AllHold ys
hold_back [] ys h = h
hold_back (x ∷ xs) ys h = hold_back xs ys h.1

pub hold_join : (xs ys : List Check) → AllHold xs → AllHold ys → AllHold (xs ++ ys)
hold_join [] ys h k = k
hold_join (x ∷ xs) ys h k = (h.0, hold_join xs ys h.1 k)

-- checks on items hold exactly where each item passes
pub each_pass : {A : Type 0} (fault : At → PolarsError) (k : ℕ) (holds : A → Bool) (xs : List A) → AllHold (each fault k holds xs) → AllByRecursion (λ (x : A). holds x ≡ true) xs
each_pass fault k holds [] h = tt
each_pass fault k holds (x ∷ xs) h = (h.0, each_pass fault (suc k) holds xs h.1)

pub pass_each : {A : Type 0} (fault : At → PolarsError) (k : ℕ) (holds : A → Bool) (xs : List A) → AllByRecursion (λ (x : A). holds x ≡ true) xs → AllHold (each fault k holds xs)
pass_each fault k holds [] h = tt
pass_each fault k holds (x ∷ xs) h = (h.0, pass_each fault (suc k) holds xs h.1)

-- columns that are compared and found the same are
pub same_is : (cs ds : Columns) → same_columns cs ds ≡ true → cs ≡ ds
same_is cs ds e = (same_columns-Decides cs ds true (sym e)).0 refl

pub is_same : (cs ds : Columns) → cs ≡ ds → same_columns cs ds ≡ true
is_same cs ds e = (same_columns-Decides cs ds (same_columns cs ds) refl).1 e

-- each name of a list that passes
pub name_passes : (P : Name → Type 0) (names : List Name) → AllByRecursion P names → (a : Name) → has names a ≡ true → P a
name_passes P [] h a i = cc
name_passes P (b ∷ names) h a i = ⊎_elim (λ (e : a ≡ b). subst P (sym e) h.0) (λ (e : has names a ≡ true). name_passes P names h.1 a e) (has_cons b names a i)

pub pass_names : (P : Name → Type 0) (names : List Name) → ((a : Name) → has names a ≡ true → P a) → AllByRecursion P names
pass_names P [] h = tt
pass_names P (b ∷ names) h = (h b (has_first b names), pass_names P names (λ a i. h a (has_later b names a i)))

-- the leaves of an expression that is known are columns
pub known_leaf : (names : List Name) (s : Columns) (a : Name) → all_known names s ≡ true → has names a ≡ true → is_some (type_of s a) ≡ true
known_leaf [] s a h i = cc
known_leaf (b ∷ names) s a h i =
    let p = and_parts (is_some (type_of s b)) (all_known names s) h in
    ⊎_elim (λ (e : a ≡ b). ap (λ (x : Name). is_some (type_of s x)) e ∙ p.0) (λ (e : has names a ≡ true). known_leaf names s a p.1 e) (has_cons b names a i)

-- scans

-- what the checks on a scan of so many sources say, part by part
pub record ScanGood (sources : ℕ) (predicate : Option Named) (output : Option Columns) (info : FileInfo) (hive : Option (List Stats)) (options : FileScanOptions) : Type 0 where
  pub built : is_built_scan sources predicate info hive options ≡ true
  pub known : AllByRecursion (λ (c : Name × DataType). is_known (scan_columns info hive options) c.0 ≡ true) (columns_or output [])
  pub told : AllByRecursion (λ (a : Name). is_known (reader_columns info) a ≡ true) (names_or options.with_columns [])
  pub alike : are_alike hive ≡ true
  pub put_out : AllHold (put_out_checks output options.with_columns (row_columns options.row_index) (plain_columns (reader_columns info) (hive_columns hive)) (scan_columns info hive options))
  pub plain : AllByRecursion (λ (a : Name). not (has (names_of (hive_columns hive)) a) ≡ true) (names_or options.with_columns [])
  pub differ : all_differ (names_of (columns_or output (scan_columns info hive options))) ≡ true
  pub once : AllHold (each_new (suc (length (columns_or output []))) [] (names_or options.with_columns []))
  pub stored : same_columns info.schema (scan_columns info hive options) ≡ true
  pub apart : all_differ (names_of (scan_columns info hive options)) ≡ true

pub scan_good : (sources : ℕ) (predicate : Option Named) (output : Option Columns) (info : FileInfo) (hive : Option (List Stats)) (options : FileScanOptions) → AllHold (scan_checks sources predicate output info hive options) → ScanGood sources predicate output info hive options
unfolding scan_column_checks scan_name_checks scan_type_checks differ_checks schema_checks
scan_good sources predicate output info hive options h =
    let reader = reader_columns info in
    let file = scan_columns info hive options in
    let outs = columns_or output [] in
    let told = names_or options.with_columns [] in
    let a : List Check = each SchemaFieldNotFound 1 (λ (c : Name × DataType). is_known file c.0) outs in
    let b : List Check = each SchemaFieldNotFound (suc (length outs)) (is_known reader) told in
    let c : List Check = put_out_checks output options.with_columns (row_columns options.row_index) (plain_columns reader (hive_columns hive)) file in
    let d : List Check = each SchemaMismatch (suc (length outs)) (λ (x : Name). not (has (names_of (hive_columns hive)) x)) told in
    let e : List Check = differ_checks (columns_or output file) in
    let f : List Check = each_new (suc (length outs)) [] told in
    let g : List Check = schema_checks info.schema file in
    let types : List Check = check SchemaMismatch 0 (are_alike hive) ∷ (c ++ d) in
    let names = hold_front (a ++ b) (types ++ (e ++ (f ++ g))) h.1 in
    let rest = hold_back (a ++ b) (types ++ (e ++ (f ++ g))) h.1 in
    let typed = hold_front types (e ++ (f ++ g)) rest in
    let last = hold_back types (e ++ (f ++ g)) rest in
    let stored = and_parts (same_columns info.schema file) (all_differ (names_of file)) (hold_back f g last.1).0 in
    record {
      built = h.0;
      known = each_pass SchemaFieldNotFound 1 (λ (x : Name × DataType). is_known file x.0) outs (hold_front a b names);
      told = each_pass SchemaFieldNotFound (suc (length outs)) (is_known reader) told (hold_back a b names);
      alike = typed.0;
      put_out = hold_front c d typed.1;
      plain = each_pass SchemaMismatch (suc (length outs)) (λ (x : Name). not (has (names_of (hive_columns hive)) x)) told (hold_back c d typed.1);
      differ = last.0;
      once = hold_front f g last.1;
      stored = stored.0;
      apart = stored.1;
    }

pub good_scan : (sources : ℕ) (predicate : Option Named) (output : Option Columns) (info : FileInfo) (hive : Option (List Stats)) (options : FileScanOptions) → ScanGood sources predicate output info hive options → AllHold (scan_checks sources predicate output info hive options)
unfolding scan_column_checks scan_name_checks scan_type_checks differ_checks schema_checks
good_scan sources predicate output info hive options g =
    let reader = reader_columns info in
    let file = scan_columns info hive options in
    let outs = columns_or output [] in
    let told = names_or options.with_columns [] in
    let a : List Check = each SchemaFieldNotFound 1 (λ (c : Name × DataType). is_known file c.0) outs in
    let b : List Check = each SchemaFieldNotFound (suc (length outs)) (is_known reader) told in
    let c : List Check = put_out_checks output options.with_columns (row_columns options.row_index) (plain_columns reader (hive_columns hive)) file in
    let d : List Check = each SchemaMismatch (suc (length outs)) (λ (x : Name). not (has (names_of (hive_columns hive)) x)) told in
    let e : List Check = differ_checks (columns_or output file) in
    let f : List Check = each_new (suc (length outs)) [] told in
    let last : List Check = schema_checks info.schema file in
    let types : List Check = check SchemaMismatch 0 (are_alike hive) ∷ (c ++ d) in
    let names : AllHold (a ++ b) = hold_join a b (pass_each SchemaFieldNotFound 1 (λ (x : Name × DataType). is_known file x.0) outs g.known) (pass_each SchemaFieldNotFound (suc (length outs)) (is_known reader) told g.told) in
    let typed : AllHold (c ++ d) = hold_join c d g.put_out (pass_each SchemaMismatch (suc (length outs)) (λ (x : Name). not (has (names_of (hive_columns hive)) x)) told g.plain) in
    let both : (same_columns info.schema file && all_differ (names_of file)) ≡ true = rw g.stored g.apart in
    (g.built, hold_join (a ++ b) (types ++ (e ++ (f ++ last))) names (hold_join types (e ++ (f ++ last)) (g.alike, typed) (g.differ, hold_join f last g.once (both, tt))))

-- scans of frames

-- what the checks on a scan of a frame say, part by part
pub record FrameGood (df : Option ℕ) (schema : Columns) (output : Option Columns) : Type 0 where
  pub known : AllByRecursion (λ (c : Name × DataType). is_known schema c.0 ≡ true) (columns_or output [])
  pub number : (is_some df || is_empty schema) ≡ true
  pub typed : AllByRecursion (λ (c : Name × DataType). is_column schema c ≡ true) (columns_or output [])
  pub differ : all_differ (names_of (columns_or output schema)) ≡ true

pub frame_good : (df : Option ℕ) (schema : Columns) (output : Option Columns) → AllHold (frame_checks df schema output) → FrameGood df schema output
unfolding frame_checks number_checks differ_checks
frame_good df schema output h =
    let outs = columns_or output [] in
    let a = each SchemaFieldNotFound 1 (λ (c : Name × DataType). is_known schema c.0) outs in
    let b = each SchemaMismatch 1 (is_column schema) outs in
    let n = number_checks df schema in
    let d = differ_checks (columns_or output schema) in
    let rest = hold_back a (n ++ (b ++ d)) h in
    record {
      known = each_pass SchemaFieldNotFound 1 (λ (c : Name × DataType). is_known schema c.0) outs (hold_front a (n ++ (b ++ d)) h);
      number = rest.0;
      typed = each_pass SchemaMismatch 1 (is_column schema) outs (hold_front b d rest.1);
      differ = (hold_back b d rest.1).0;
    }

pub good_frame : (df : Option ℕ) (schema : Columns) (output : Option Columns) → FrameGood df schema output → AllHold (frame_checks df schema output)
unfolding frame_checks number_checks differ_checks
good_frame df schema output g =
    let outs = columns_or output [] in
    let a = each SchemaFieldNotFound 1 (λ (c : Name × DataType). is_known schema c.0) outs in
    let b = each SchemaMismatch 1 (is_column schema) outs in
    let n = number_checks df schema in
    let d = differ_checks (columns_or output schema) in
    hold_join a (n ++ (b ++ d)) (pass_each SchemaFieldNotFound 1 (λ (c : Name × DataType). is_known schema c.0) outs g.known)
    (g.number, hold_join b d (pass_each SchemaMismatch 1 (is_column schema) outs g.typed) (g.differ, tt))

-- projections

-- what the checks on a projection say, part by part
pub record ProjectionGood (cs s : Columns) : Type 0 where
  pub some : not (is_empty cs) ≡ true
  pub known : AllByRecursion (λ (c : Name × DataType). is_known s c.0 ≡ true) cs
  pub typed : AllByRecursion (λ (c : Name × DataType). is_column s c ≡ true) cs
  pub differ : all_differ (names_of cs) ≡ true

pub projection_good : (cs s : Columns) → AllHold (projection_checks cs s) → ProjectionGood cs s
unfolding differ_checks
projection_good cs s h =
    let a = each SchemaFieldNotFound 1 (λ (c : Name × DataType). is_known s c.0) cs in
    let b = each SchemaMismatch 1 (is_column s) cs in
    let d = differ_checks cs in
    let rest = hold_back a (b ++ d) h.1 in
    record {
      some = h.0;
      known = each_pass SchemaFieldNotFound 1 (λ (c : Name × DataType). is_known s c.0) cs (hold_front a (b ++ d) h.1);
      typed = each_pass SchemaMismatch 1 (is_column s) cs (hold_front b d rest);
      differ = (hold_back b d rest).0;
    }

pub good_projection : (cs s : Columns) → ProjectionGood cs s → AllHold (projection_checks cs s)
unfolding differ_checks
good_projection cs s g =
    let a = each SchemaFieldNotFound 1 (λ (c : Name × DataType). is_known s c.0) cs in
    let b = each SchemaMismatch 1 (is_column s) cs in
    let d = differ_checks cs in
    (g.some, hold_join a (b ++ d) (pass_each SchemaFieldNotFound 1 (λ (c : Name × DataType). is_known s c.0) cs g.known) (hold_join b d (pass_each SchemaMismatch 1 (is_column s) cs g.typed) (g.differ, tt)))

-- columns that expressions make

-- what the checks on expressions that make columns say, part by part
pub record MadeGood (base : Columns) (es : List Named) (stored s : Columns) : Type 0 where
  pub formed : AllByRecursion (λ (e : Named). has_form e.expr ≡ true) es
  pub known : AllByRecursion (λ (e : Named). all_known (leaves e.expr) s ≡ true) es
  pub typed : AllByRecursion (λ (e : Named). is_some (expr_type e.expr s) ≡ true) es
  pub once : AllHold (each_new 1 [] (out_names es))
  pub same : same_columns stored (made_schema base es s) ≡ true
  pub named : AllByRecursion (λ (e : Named). may_be_named e.name (naming e.expr) ≡ true) es

pub made_good : (base : Columns) (es : List Named) (stored s : Columns) → AllHold (made_checks base es stored s) → MadeGood base es stored s
unfolding made_checks form_checks leaf_checks type_checks once_checks stored_checks naming_checks
made_good base es stored s h =
    let f = form_checks es in
    let a = leaf_checks es s in
    let b = type_checks es s in
    let c = once_checks es in
    let d = naming_checks es in
    let n = stored_checks stored (made_schema base es s) in
    let abcd = hold_back f (a ++ (b ++ (c ++ (n ++ d)))) h in
    let bcd = hold_back a (b ++ (c ++ (n ++ d))) abcd in
    let cd = hold_back b (c ++ (n ++ d)) bcd in
    let last = hold_back c (n ++ d) cd in
    record {
      formed = each_pass InvalidOperation 1 (λ (e : Named). has_form e.expr) es (hold_front f (a ++ (b ++ (c ++ (n ++ d)))) h);
      known = each_pass SchemaFieldNotFound 1 (λ (e : Named). all_known (leaves e.expr) s) es (hold_front a (b ++ (c ++ (n ++ d))) abcd);
      typed = each_pass SchemaMismatch 1 (λ (e : Named). is_some (expr_type e.expr s)) es (hold_front b (c ++ (n ++ d)) bcd);
      once = hold_front c (n ++ d) cd;
      same = last.0;
      named = each_pass SchemaMismatch 1 (λ (e : Named). may_be_named e.name (naming e.expr)) es last.1;
    }

pub good_made : (base : Columns) (es : List Named) (stored s : Columns) → MadeGood base es stored s → AllHold (made_checks base es stored s)
unfolding made_checks form_checks leaf_checks type_checks once_checks stored_checks naming_checks
good_made base es stored s g =
    let f = form_checks es in
    let a = leaf_checks es s in
    let b = type_checks es s in
    let c = once_checks es in
    let d = naming_checks es in
    let n = stored_checks stored (made_schema base es s) in
    hold_join f (a ++ (b ++ (c ++ (n ++ d)))) (pass_each InvalidOperation 1 (λ (e : Named). has_form e.expr) es g.formed)
    (hold_join a (b ++ (c ++ (n ++ d))) (pass_each SchemaFieldNotFound 1 (λ (e : Named). all_known (leaves e.expr) s) es g.known)
    (hold_join b (c ++ (n ++ d)) (pass_each SchemaMismatch 1 (λ (e : Named). is_some (expr_type e.expr s)) es g.typed)
    (hold_join c (n ++ d) g.once (g.same, pass_each SchemaMismatch 1 (λ (e : Named). may_be_named e.name (naming e.expr)) es g.named))))

-- keys

-- what the checks on keys say, part by part
pub record KeysGood (keys : List Named) (s : Columns) : Type 0 where
  pub formed : AllByRecursion (λ (e : Named). has_form e.expr ≡ true) keys
  pub known : AllByRecursion (λ (e : Named). all_known (leaves e.expr) s ≡ true) keys
  pub typed : AllByRecursion (λ (e : Named). is_plain_type (expr_type e.expr s) ≡ true) keys
  pub named : AllByRecursion (λ (e : Named). may_be_named e.name (naming e.expr) ≡ true) keys

pub keys_good : (keys : List Named) (s : Columns) → AllHold (key_checks keys s) → KeysGood keys s
unfolding key_checks form_checks leaf_checks plain_checks naming_checks
keys_good keys s h =
    let f = form_checks keys in
    let a = leaf_checks keys s in
    let b = plain_checks keys s in
    let d = naming_checks keys in
    let abd = hold_back f (a ++ (b ++ d)) h in
    let bd = hold_back a (b ++ d) abd in
    record {
      formed = each_pass InvalidOperation 1 (λ (e : Named). has_form e.expr) keys (hold_front f (a ++ (b ++ d)) h);
      known = each_pass SchemaFieldNotFound 1 (λ (e : Named). all_known (leaves e.expr) s) keys (hold_front a (b ++ d) abd);
      typed = each_pass SchemaMismatch 1 (λ (e : Named). is_plain_type (expr_type e.expr s)) keys (hold_front b d bd);
      named = each_pass SchemaMismatch 1 (λ (e : Named). may_be_named e.name (naming e.expr)) keys (hold_back b d bd);
    }

pub good_keys : (keys : List Named) (s : Columns) → KeysGood keys s → AllHold (key_checks keys s)
unfolding key_checks form_checks leaf_checks plain_checks naming_checks
good_keys keys s g =
    let f = form_checks keys in
    let a = leaf_checks keys s in
    let b = plain_checks keys s in
    let d = naming_checks keys in
    hold_join f (a ++ (b ++ d)) (pass_each InvalidOperation 1 (λ (e : Named). has_form e.expr) keys g.formed)
    (hold_join a (b ++ d) (pass_each SchemaFieldNotFound 1 (λ (e : Named). all_known (leaves e.expr) s) keys g.known)
    (hold_join b d (pass_each SchemaMismatch 1 (λ (e : Named). is_plain_type (expr_type e.expr s)) keys g.typed)
    (pass_each SchemaMismatch 1 (λ (e : Named). may_be_named e.name (naming e.expr)) keys g.named)))
