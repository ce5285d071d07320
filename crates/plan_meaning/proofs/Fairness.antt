-- What a node asks can be asked of its inputs, and what a scan may read is among what it reads.
use Rattle.std.proofs.Common.{◌≡◌, ◌&&◌, Bool, true, false, cond, not, ◌||◌, List, [], ◌∷◌, ◌++◌, length, map, Option, Some, None, refl, sym, ap, ◌∙◌, subst, is_some, ⊎_elim}
use Rattle.std.specs.List.{AllByRecursion, filter as only_where, list_all}
use Rattle.std.proofs.lemmas.Bool.{and_parts}
use Rattle.plan_core.specs.declared.data_type.DataType.{DataType}
use Rattle.plan_core.specs.declared.error.PolarsError.TheVariants.{SchemaFieldNotFound, SchemaMismatch}
use Rattle.plan_core.specs.Columns.{Columns, names_of, type_of}
use Rattle.plan_core.specs.Names.{has, with_names, AreDistinct}
use Rattle.plan_tree.specs.Rose.{Roses, rose, no_roses, more}
use Rattle.plan_expr.specs.Exprs.{Named}
use Rattle.plan_ir.specs.Plans.{Op, slice, filter, scan, frame_scan, simple_projection, select, hstack, sort, group_by, join, distinct, map_function, sink, union, hconcat, cache, invalid, Plan}
use Rattle.plan_expr.specs.Leaves.{Name, leaves}
use Rattle.plan_frame.specs.Exprs.{all_known}
use Rattle.plan_frame.specs.Grouping.{gathered, group_exprs}
use Rattle.plan_meaning.specs.Checks.{is_known, is_column}
use Rattle.plan_core.specs.declared.options.FileScanOptions.{FileScanOptions}
use Rattle.plan_frame.proofs.BesideLemmas.{or_else}
use Rattle.plan_scan.specs.Sources.{sources_of}
use Rattle.plan_scan.specs.declared.file_scan.FileScan.{FileScan}
use Rattle.plan_scan.specs.declared.file_scan.FileScan.TheVariants as kinds
use Rattle.plan_files.specs.FileColumns.{file_columns, hive_columns, path_columns, plain_columns, read_names, row_columns}
use Rattle.plan_files.specs.FileReads.{first_alone, is_counted, is_given, is_told, left_names, own_names, stand_in}
use Rattle.plan_files.proofs.FileLemmas.{type_of-files}
use Rattle.plan_meaning.specs.Typing.{columns_or, reader_columns, scan_columns, all_read, is_number_or_read, put_out_checks, subset_checks, first_schema, schema_by, schemas, checks, AllHold, AllValid}
use Rattle.plan_frame.specs.Beside.{side_by_side}
use Rattle.plan_frame.specs.Frames.{names_or}
use Rattle.plan_frame.specs.Made.{made_schema}
use Rattle.plan_meaning.specs.Steps.{IsValid}
use Rattle.plan_meaning.specs.Relating.{Asked, all, names, cached}
use Rattle.plan_frame.specs.ExprLists.{counts_rows, all_leaves}
use Rattle.plan_meaning.specs.Counting.{stand_ins, first_stand_in, stand_in_names}
use Rattle.plan_meaning.specs.Asked.{asked_names, is_asked, set_of, with_more, kept, asks_columns, kept_exprs, selected_exprs, needed_names, asks_selected, asks_added, asks_stacked, asks_grouped, asks_held, asks_alike, asks_joined, asks, own_site, sites, reads, allowed, Fair, IsFair, SiteFair, AllSites}
use Rattle.plan_frame.proofs.NameSets.{only, has_cons, has_first, has_later, some-type_of, keeps_names, from_names, distinct_names, distinct_none}
use Rattle.plan_meaning.proofs.CheckParts.{each_pass, name_passes, known_leaf, scan_good, projection_good, made_good, keys_good}
use Rattle.plan_join.specs.Told.{Told}
use Rattle.plan_meaning.specs.JoinChecks.{join_checks}
use Rattle.plan_meaning.proofs.AskedSets.{column_passes, some_name, has_some, fair_set}
use Rattle.plan_meaning.proofs.JoinFairness.{fair_left, fair_right}
use Rattle.plan_meaning.proofs.UnionLemmas.{union_inputs}
use Rattle.plan_meaning.proofs.FunctionLemmas.{fair_function}
use Rattle.plan_frame.proofs.GroupLemmas.{all_back, all_front, gathered_known}
use Rattle.plan_meaning.proofs.KeptColumns.{types_kept}
use Rattle.plan_meaning.proofs.StandIns.{IsStandIn, AreStandIns, first_stands, are_stand_ins}
use Rattle.plan_meaning.proofs.KeptExprs.{has_where, all_append, all_kept_exprs, all_selected, known_leaves, where_has, distinct_where}

-- with the leaves of an expression over the columns, what is asked can be asked of them
pub fair_more : (others : List Name) (a : Asked) (s : Columns) → ((b : Name) → has others b ≡ true → is_some (type_of s b) ≡ true) → IsFair a s → IsFair (with_more others a) s
fair_more others all s known f = tt
fair_more others cached s known f = tt
fair_more others (names wanted) s known f =
    let first = has_some wanted f.some in
    record {
      some = some_name (with_names wanted others) first.0 (keeps_names wanted others first.0 first.1);
      once = distinct_names wanted others f.once;
      known = λ b i. ⊎_elim (λ e. f.known b e) (λ e. known b e) (from_names wanted others b i);
    }

-- names of the columns, and the leaves of expressions over them
fair_leaves : (wanted : List Name) (es : List Named) (s : Columns) → AreDistinct wanted → ((b : Name) → has wanted b ≡ true → is_some (type_of s b) ≡ true) → AllByRecursion (λ (e : Named). all_known (leaves e.expr) s ≡ true) es → IsFair (set_of (with_names wanted (all_leaves es))) s
fair_leaves wanted es s once known h = fair_set (with_names wanted (all_leaves es)) s (distinct_names wanted (all_leaves es) once)
    (λ b i. ⊎_elim (λ j. known b j) (λ j. known_leaves es s h b j) (from_names wanted (all_leaves es) b i))

-- what is kept of columns

kept_at : (P : Columns → Type 0) (c : Name × DataType) (cs : Columns) (t : Bool) → (t ≡ true → P (c ∷ cs)) → (t ≡ false → P cs) → P (cond t (c ∷ cs) cs)
kept_at P c cs true p q = p refl
kept_at P c cs false p q = q refl

-- a kept column is a column, and asked
pub kept_asked : (a : Asked) (cs : Columns) (b : Name) → has (names_of (kept a cs)) b ≡ true → (has (names_of cs) b ≡ true) × (is_asked a b ≡ true)
kept_asked a [] b i = cc
kept_asked a (c ∷ cs) b i = at (is_asked a c.0) refl (λ j. kept_asked a cs b j) i
  where
    at : (t : Bool) → is_asked a c.0 ≡ t → (has (names_of (kept a cs)) b ≡ true → (has (names_of cs) b ≡ true) × (is_asked a b ≡ true)) → has (names_of (cond t (c ∷ kept a cs) (kept a cs))) b ≡ true → (has (names_of (c ∷ cs)) b ≡ true) × (is_asked a b ≡ true)
    at true e r i = ⊎_elim
        (λ (q : b ≡ c.0). (subst (λ (x : Name). has (names_of (c ∷ cs)) x ≡ true) (sym q) (has_first c.0 (names_of cs)), ap (is_asked a) q ∙ e))
        (λ (q : has (names_of (kept a cs)) b ≡ true). (has_later c.0 (names_of cs) b (r q).0, (r q).1))
        (has_cons c.0 (names_of (kept a cs)) b i)
    at false e r i = (has_later c.0 (names_of cs) b (r i).0, (r i).1)

kept_names_known : (a : Asked) (cs s : Columns) → AllByRecursion (λ (c : Name × DataType). is_known s c.0 ≡ true) cs → (b : Name) → has (with_names [] (names_of (kept a cs))) b ≡ true → is_some (type_of s b) ≡ true
kept_names_known a cs s h b i =
    column_passes (λ (x : Name). is_some (type_of s x) ≡ true) cs h b (kept_asked a cs b (⊎_elim (λ e. none e) (λ e. e) (from_names [] (names_of (kept a cs)) b i))).0
  where
    none : false ≡ true → has (names_of (kept a cs)) b ≡ true
    none e = cc

pub fair_columns : (cs : Columns) (a : Asked) (s : Columns) → AllByRecursion (λ (c : Name × DataType). is_known s c.0 ≡ true) cs → IsFair (asks_columns cs a) s
fair_columns cs all s h = fair_set (with_names [] (names_of (kept all cs))) s (distinct_names [] (names_of (kept all cs)) distinct_none) (kept_names_known all cs s h)
fair_columns cs (names wanted) s h = fair_set (with_names [] (names_of (kept (names wanted) cs))) s (distinct_names [] (names_of (kept (names wanted) cs)) distinct_none) (kept_names_known (names wanted) cs s h)
fair_columns cs cached s h = tt

-- what a selection asks

fair_stand_in : (o : Option Name) (s : Columns) → IsStandIn o s → IsFair (set_of (stand_in_names o)) s
fair_stand_in None s k = tt
fair_stand_in (Some a) s k = record { some = refl; once = distinct_names [] (a ∷ []) distinct_none; known = λ b i. ⊎_elim (λ (e : b ≡ a). ap (λ (x : Name). is_some (type_of s x)) e ∙ k) (λ (e : has [] b ≡ true). absurd (cc)) (has_cons a [] b i) }

fair_named : (es : List Named) (o : Option Name) (a : Asked) (s : Columns) → IsStandIn o s → AllByRecursion (λ (e : Named). all_known (leaves e.expr) s ≡ true) es → IsFair (set_of (needed_names es o (selected_exprs a es))) s
fair_named es o a s k h = at (counts_rows es)
  where
    at : (t : Bool) → IsFair (set_of (cond t (stand_in_names o) (with_names [] (all_leaves (selected_exprs a es))))) s
    at true = fair_stand_in o s k
    at false = fair_leaves [] (selected_exprs a es) s distinct_none (λ b i. cc) (all_selected (λ (e : Named). all_known (leaves e.expr) s ≡ true) a es h)

fair_selected : (es : List Named) (o : Option Name) (a : Asked) (s : Columns) → IsStandIn o s → AllByRecursion (λ (e : Named). all_known (leaves e.expr) s ≡ true) es → IsFair (asks_selected es o a) s
fair_selected es o all s k h = fair_named es o all s k h
fair_selected es o (names wanted) s k h = fair_named es o (names wanted) s k h
fair_selected es o cached s k h = tt

-- what an addition asks

-- an asked name that no kept expression has is the input's
pub unmade : (es ks : List Named) (wanted : List Name) (s : Columns) → kept_exprs (names wanted) es ≡ ks → (b : Name) → has wanted b ≡ true → type_of (made_schema s ks s) b ≡ type_of (made_schema s es s) b
unmade es ks wanted s is b i = ap (λ (x : List Named). type_of (made_schema s x s) b) (sym is) ∙ types_kept s (names wanted) s es b i

fair_added : (es ks : List Named) (wanted : List Name) (s : Columns) → kept_exprs (names wanted) es ≡ ks → AllByRecursion (λ (e : Named). all_known (leaves e.expr) s ≡ true) ks → Fair wanted (made_schema s es s) → IsFair (asks_added ks wanted s) s
fair_added es [] wanted s is h f = record { some = f.some; once = f.once; known = λ b i. ap is_some (unmade es [] wanted s is b i) ∙ f.known b i }
fair_added es (e ∷ ks) wanted s is h f =
    fair_leaves (only_where (has (names_of s)) wanted) (e ∷ ks) s (distinct_where (has (names_of s)) wanted f.once) (λ b i. some-type_of s b ∙ (where_has (has (names_of s)) wanted b i).1) h

fair_stacked : (es : List Named) (a : Asked) (s : Columns) → AllByRecursion (λ (e : Named). all_known (leaves e.expr) s ≡ true) es → IsFair a (made_schema s es s) → IsFair (asks_stacked es a s) s
fair_stacked es all s h f = tt
fair_stacked es (names wanted) s h f = fair_added es (kept_exprs (names wanted) es) wanted s refl (all_kept_exprs (λ (e : Named). all_known (leaves e.expr) s ≡ true) (names wanted) es h) f
fair_stacked es cached s h f = tt

-- the names by which rows are told apart are columns
pub told_known : (subset : Option (List Name)) (s : Columns) → AllHold (subset_checks subset s) → (b : Name) → has (names_or subset (names_of s)) b ≡ true → is_some (type_of s b) ≡ true
unfolding subset_checks
told_known None s h b i = some-type_of s b ∙ i
told_known (Some given) s h b i = name_passes (λ (x : Name). is_some (type_of s x) ≡ true) given (each_pass SchemaFieldNotFound 1 (is_known s) given h) b i

-- what can be asked of several columns, one for one
abbrev pub FairAll : List Asked → List Columns → Type 0
FairAll [] [] = Unit {0}
FairAll (a ∷ asked) (s ∷ ss) = IsFair a s × FairAll asked ss
FairAll _ _ = ⊥

-- what can be asked of one of several inputs with the same columns can be asked of each
fair_alike : (a : Asked) (s : Columns) (ss : List Columns) → AllByRecursion (λ (t : Columns). t ≡ s) ss → IsFair a s → FairAll (asks_alike a ss) ss
fair_alike a s [] h f = tt
fair_alike a s (t ∷ ss) h f = (subst (IsFair a) (sym h.0) f, fair_alike a s ss h.1 f)

-- what a grouping asks
-- what a grouping reads for what it keeps is known
grouping_known : (keys aggs : List Named) (a : Asked) (s : Columns) → AllByRecursion (λ (e : Named). all_known (leaves e.expr) s ≡ true) (group_exprs keys aggs) → AllByRecursion (λ (e : Named). all_known (leaves e.expr) s ≡ true) (kept_exprs a aggs ++ keys)
grouping_known keys aggs a s h =
    let P : Named → Type 0 = λ e. all_known (leaves e.expr) s ≡ true in
    all_append P (kept_exprs a aggs) keys (all_kept_exprs P a aggs (gathered_known aggs s (all_back P keys (map gathered aggs) h))) (all_front P keys (map gathered aggs) h)

fair_grouped : (keys aggs : List Named) (a : Asked) (s t : Columns) → AllByRecursion (λ (e : Named). all_known (leaves e.expr) s ≡ true) (group_exprs keys aggs) → IsFair a t → IsFair (asks_grouped keys aggs a s) s
fair_grouped keys aggs all s t h f = fair_leaves [] (kept_exprs all aggs ++ keys) s distinct_none (λ b i. cc) (grouping_known keys aggs all s h)
fair_grouped keys aggs (names wanted) s t h f =
    fair_leaves (only_where (has (names_of s)) wanted) (kept_exprs (names wanted) aggs ++ keys) s (distinct_where (has (names_of s)) wanted f.once) (λ b i. some-type_of s b ∙ (where_has (has (names_of s)) wanted b i).1) (grouping_known keys aggs (names wanted) s h)
fair_grouped keys aggs cached s t h f = tt

-- what a concatenation asks of each input

-- names that are asked stand once
abbrev Once : Asked → Type 0
Once all = Unit {0}
Once (names wanted) = AreDistinct wanted
Once cached = Unit {0}

held_once : (a : Asked) (s : Columns) → IsFair a s → Once a
held_once all s f = tt
held_once (names wanted) s f = f.once
held_once cached s f = tt

fair_held : (a : Asked) (s : Columns) → Once a → IsFair (asks_held a s) s
fair_held all s f = tt
fair_held (names wanted) s f = fair_set (only_where (has (names_of s)) wanted) s (distinct_where (has (names_of s)) wanted f) (λ b i. some-type_of s b ∙ (where_has (has (names_of s)) wanted b i).1)
fair_held cached s f = tt

fair_each : (a : Asked) (ss : List Columns) → Once a → FairAll (map (asks_held a) ss) ss
fair_each a [] f = tt
fair_each a (s ∷ ss) f = (fair_held a s f, fair_each a ss f)

-- what a join asks of its sides
fair_joined : (left_on right_on : List Named) (stored : Columns) (told : Told) (a : Asked) (s t : Columns) → AllHold (join_checks left_on right_on stored told s t) → FairAll (asks_joined left_on right_on told a s t) (s ∷ t ∷ [])
fair_joined left_on right_on stored told all s t good = (fair_left left_on right_on stored told s t good [], (fair_right left_on right_on stored told s t good [], tt))
fair_joined left_on right_on stored told (names wanted) s t good = (fair_left left_on right_on stored told s t good wanted, (fair_right left_on right_on stored told s t good wanted, tt))
fair_joined left_on right_on stored told cached s t good = (tt, (tt, tt))

-- per node: what it asks can be asked of its inputs
pub fair_asks : (op : Op) (a : Asked) (ss : List Columns) (os : List (Option Name)) → AllHold (checks op ss) → AreStandIns os ss → IsFair a (schema_by op ss) → FairAll (asks op a ss os) ss
fair_asks (filter predicate) a (s ∷ []) os good k f = (fair_more (leaves predicate.expr) a s (λ b i. known_leaf (leaves predicate.expr) s b good.1.0 i) f, tt)
fair_asks (scan sources info hive predicate output kind options) a [] os good k f = tt
fair_asks (simple_projection cols) a (s ∷ []) os good k f =
    (fair_columns cols a s (projection_good cols s good).known, tt)
fair_asks (slice offset len) a (s ∷ []) os good k f = (f, tt)
fair_asks (frame_scan df schema output) a [] os good k f = tt
fair_asks (select es stored options) a (s ∷ []) os good k f = (fair_selected es (first_stand_in os) a s (first_stands os s [] k) (made_good [] es stored s good.1).known, tt)
fair_asks (hstack es stored options) a (s ∷ []) os good k f = (fair_stacked es a s (made_good s es stored s good).known f, tt)
fair_asks (sort keys part options) a (s ∷ []) os good k f = (fair_more (all_leaves keys) a s (λ b i. known_leaves keys s (keys_good keys s good.1).known b i) f, tt)
fair_asks (group_by keys aggs schema ordered options) a (s ∷ []) os good k f = (fair_grouped keys aggs a s (made_schema [] (group_exprs keys aggs) s) (made_good [] (group_exprs keys aggs) schema s good.1).known f, tt)
fair_asks (join left_on right_on schema told) a (s ∷ t ∷ []) os good k f = fair_joined left_on right_on schema told a s t good
fair_asks (distinct options) a (s ∷ []) os good k f = (fair_more (names_or options.subset (names_of s)) a s (λ b i. told_known options.subset s good.1 b i) f, tt)
fair_asks (map_function function) a (s ∷ []) os good k f = (fair_function function a s good f, tt)
fair_asks (sink payload) a (s ∷ []) os good k f = (f, tt)
fair_asks (union options) a ss os good k f = fair_alike a (first_schema ss) ss (union_inputs options ss good) f
fair_asks (hconcat schema options) a ss os good k f = fair_each a ss (held_once a (side_by_side ss) f)
fair_asks (cache id hits) a (s ∷ []) os good k f = (tt, tt)
fair_asks op a ss os good k f = absurd (cc)

-- scans

all_read_each : (told : Option (List Name)) (cs : Columns) → all_read told cs ≡ true → AllByRecursion (λ (c : Name × DataType). is_told told c.0 ≡ true) cs
all_read_each told [] h = tt
all_read_each told (c ∷ cs) h = let p = and_parts (is_told told c.0) (all_read told cs) h in (p.0, all_read_each told cs p.1)

second_parts : (file : Columns) (told : Option (List Name)) (row plain cs : Columns) → AllByRecursion (λ (c : Name × DataType). (is_column file c && is_number_or_read row told plain c.0) ≡ true) cs → AllByRecursion (λ (c : Name × DataType). is_number_or_read row told plain c.0 ≡ true) cs
second_parts file told row plain [] h = tt
second_parts file told row plain (c ∷ cs) h = ((and_parts (is_column file c) (is_number_or_read row told plain c.0) h.0).1, second_parts file told row plain cs h.1)

-- what a scan puts out of its files' own columns is read, but for the column that numbers the rows
pub out_read : (output : Option Columns) (told : Option (List Name)) (row plain file : Columns) → AllHold (put_out_checks output told row plain file) → (a : Name) → has (names_of (columns_or output file)) a ≡ true → has (names_of row) a ≡ false → has (names_of plain) a ≡ true → is_told told a ≡ true
unfolding put_out_checks
out_read None told row plain file h a i n j = column_passes (λ (x : Name). is_told told x ≡ true) plain (all_read_each told plain h.0) a j
out_read (Some out) told row plain file h a i n j = at (has (names_of row) a) (has (names_of plain) a) n j (column_passes (λ (x : Name). is_number_or_read row told plain x ≡ true) out (second_parts file told row plain out (each_pass SchemaMismatch 1 (λ (c : Name × DataType). is_column file c && is_number_or_read row told plain c.0) out h)) a i)
  where
    at : (numbers b : Bool) → numbers ≡ false → b ≡ true → (numbers || (not b || is_told told a)) ≡ true → is_told told a ≡ true
    at false true e f q = q
    at false false e f q = cc
    at true b e f q = cc

-- and is found in its files
pub out_found : (output : Option Columns) (file : Columns) → AllByRecursion (λ (c : Name × DataType). is_known file c.0 ≡ true) (columns_or output []) → (a : Name) → has (names_of (columns_or output file)) a ≡ true → is_some (type_of file a) ≡ true
out_found None file h a i = some-type_of file a ∙ i
out_found (Some out) file h a i = column_passes (λ (x : Name). is_some (type_of file x) ≡ true) out h a i

-- what a scan may read for the names that it is asked is read

first_among : (l : List Name) (a : Name) → has (first_alone l) a ≡ true → has l a ≡ true
first_among [] a i = i
first_among (b ∷ l) a i = subst (λ (x : Name). has (b ∷ l) x ≡ true) (sym (only b a i)) (has_first b l)

stand_in_among : (kind : FileScan) (l : List Name) (a : Name) → has (stand_in kind l) a ≡ true → has l a ≡ true
stand_in_among kinds.Csv l a i = first_among l a i
stand_in_among kinds.NDJson l a i = first_among l a i
stand_in_among kinds.Parquet l a i = cc
stand_in_among kinds.Ipc l a i = cc

none_of : (x y z : Bool) → not ((x || y) || z) ≡ true → (x ≡ false) × (y ≡ false) × (z ≡ false)
none_of false false false e = (refl, refl, refl)
none_of true y z e = cc
none_of false true z e = cc
none_of false false true e = cc

found_at : (row hive reader path : Option DataType) → is_some row ≡ false → is_some hive ≡ false → is_some path ≡ false → is_some (or_else row (or_else (or_else hive reader) path)) ≡ true → is_some reader ≡ true
found_at None None None None e f g h = cc
found_at None None (Some t) path e f g h = refl
found_at None None None (Some t) e f g h = cc
found_at None (Some t) reader path e f g h = cc
found_at (Some t) hive reader path e f g h = cc

names-where : (p : Name → Bool) (cs : Columns) → names_of (only_where (λ (c : Name × DataType). p c.0) cs) ≡ only_where p (names_of cs)
names-where p [] = refl
names-where p (c ∷ cs) = at (p c.0) (names-where p cs)
  where
    at : (t : Bool) → names_of (only_where (λ (x : Name × DataType). p x.0) cs) ≡ only_where p (names_of cs) → names_of (cond t (c ∷ only_where (λ (x : Name × DataType). p x.0) cs) (only_where (λ (x : Name × DataType). p x.0) cs)) ≡ cond t (c.0 ∷ only_where p (names_of cs)) (only_where p (names_of cs))
    at true r = ap (λ (l : List Name). c.0 ∷ l) r
    at false r = r

read_of : (told : Option (List Name)) (reader hive : Columns) (a : Name) → has (names_of (plain_columns reader hive)) a ≡ true → is_told told a ≡ true → has (read_names told reader hive) a ≡ true
read_of None reader hive a i h = i
read_of (Some given) reader hive a i h = h

module _ (wanted : List Name) (kind : FileScan) (told : Option (List Name)) (reader hive : Columns) (options : FileScanOptions) (output : Option Columns) (put : AllHold (put_out_checks output told (row_columns options.row_index) (plain_columns reader hive) (file_columns reader hive options))) (asked : (b : Name) → has wanted b ≡ true → has (names_of (columns_or output (file_columns reader hive options))) b ≡ true) (found : (b : Name) → has wanted b ≡ true → is_some (type_of (file_columns reader hive options) b) ≡ true) where
  own_reads : (a : Name) → has (own_names wanted hive options) a ≡ true → has (read_names told reader hive) a ≡ true
  own_reads a i =
      let row = row_columns options.row_index in
      let path = path_columns options.include_file_paths in
      let q = where_has (λ (b : Name). not (is_given hive options b)) wanted a i in
      let n = none_of (has (names_of row) a) (has (names_of path) a) (has (names_of hive) a) q.1 in
      let there : is_some (type_of reader a) ≡ true = found_at (type_of row a) (type_of hive a) (type_of reader a) (type_of path a) (some-type_of row a ∙ n.0) (some-type_of hive a ∙ n.2) (some-type_of path a ∙ n.1) (ap is_some (sym (type_of-files reader hive options a)) ∙ found a q.0) in
      let plain : has (names_of (plain_columns reader hive)) a ≡ true = subst (λ (l : List Name). has l a ≡ true) (sym (names-where (λ (b : Name). not (has (names_of hive) b)) reader)) (has_where (λ (b : Name). not (has (names_of hive) b)) (names_of reader) a (ap not n.2) (sym (some-type_of reader a) ∙ there)) in
      read_of told reader hive a plain (out_read output told (row_columns options.row_index) (plain_columns reader hive) (file_columns reader hive options) put a (asked a q.0) n.0 plain)

  scan_reads : (a : Name) → has (left_names kind wanted (read_names told reader hive) hive options) a ≡ true → has (read_names told reader hive) a ≡ true
  scan_reads a i = at (list_all (is_counted options) wanted) i
    where
      at : (b : Bool) → has (cond b (stand_in kind (read_names told reader hive)) (own_names wanted hive options)) a ≡ true → has (read_names told reader hive) a ≡ true
      at true j = stand_in_among kind (read_names told reader hive) a j
      at false j = own_reads a j

-- per scan
site_fair : (op : Op) (a : Asked) (ss : List Columns) → AllHold (checks op ss) → IsFair a (schema_by op ss) → AllByRecursion SiteFair (own_site op a)
site_fair (scan sources info hive predicate output kind options) a [] good f =
    (record { asked = λ b i. asked a f b i; allowed = λ b i. may_read a f b i }, tt)
  where
    here : Op
    here = scan sources info hive predicate output kind options

    asked : (x : Asked) → IsFair x (schema_by here []) → (b : Name) → has (asked_names x) b ≡ true → has (names_of (schema_by here [])) b ≡ true
    asked all f b i = cc
    asked cached f b i = cc
    asked (names wanted) f b i = sym (some-type_of (schema_by here []) b) ∙ f.known b i

    may_read : (x : Asked) → IsFair x (schema_by here []) → (b : Name) → has (allowed here x) b ≡ true → has (reads here) b ≡ true
    may_read all f b i = i
    may_read cached f b i = i
    may_read (names wanted) f b i =
        let parts = scan_good (length (sources_of sources)) predicate output info hive options good in
        scan_reads wanted kind options.with_columns (reader_columns info) (hive_columns hive) options output parts.put_out (λ x j. asked (names wanted) f x j) (λ x j. out_found output (scan_columns info hive options) parts.known x (asked (names wanted) f x j)) b i
site_fair (frame_scan df schema output) a [] good f =
    (record { asked = λ b i. asked a f b i; allowed = λ b i. may_read a f b i }, tt)
  where
    here : Op
    here = frame_scan df schema output

    asked : (x : Asked) → IsFair x (schema_by here []) → (b : Name) → has (asked_names x) b ≡ true → has (names_of (schema_by here [])) b ≡ true
    asked all f b i = cc
    asked cached f b i = cc
    asked (names wanted) f b i = sym (some-type_of (schema_by here []) b) ∙ f.known b i

    may_read : (x : Asked) → IsFair x (schema_by here []) → (b : Name) → has (allowed here x) b ≡ true → has (reads here) b ≡ true
    may_read all f b i = i
    may_read cached f b i = i
    may_read (names wanted) f b i = asked (names wanted) f b i
site_fair (slice offset len) a ss good f = tt
site_fair (select es stored options) a ss good f = tt
site_fair (hstack es stored options) a ss good f = tt
site_fair (frame_scan df schema output) a (s ∷ ss) good f = cc
site_fair (filter predicate) a ss good f = tt
site_fair (simple_projection cols) a ss good f = tt
site_fair (sort keys part options) a ss good f = tt
site_fair (group_by keys aggs schema ordered options) a ss good f = tt
site_fair (join left_on right_on schema told) a ss good f = tt
site_fair (distinct options) a ss good f = tt
site_fair (map_function function) a ss good f = tt
site_fair (sink payload) a ss good f = tt
site_fair (union options) a ss good f = tt
site_fair (hconcat schema options) a ss good f = tt
site_fair (cache id hits) a ss good f = tt
site_fair invalid a ss good f = tt
site_fair (scan sources info hive predicate output kind options) a (s ∷ ss) good f = cc

-- the scans of valid plans that are asked what can be asked of them
pub sites_fair : (ts : Roses (Unit {0}) Op) (asked : List Asked) → AllValid ts → FairAll asked (schemas ts) → AllByRecursion SiteFair (sites ts asked)
sites_fair no_roses asked v f = tt
sites_fair (more (rose n op ts) rest) [] v f = absurd f
sites_fair (more (rose n op ts) rest) (a ∷ asked) v f =
    let below = asks op a (schemas ts) (stand_ins ts (schemas ts)) in
    all_append SiteFair (own_site op a) (sites ts below ++ sites rest asked) (site_fair op a (schemas ts) v.0 f.0)
    (all_append SiteFair (sites ts below) (sites rest asked) (sites_fair ts below v.1 (fair_asks op a (schemas ts) (stand_ins ts (schemas ts)) v.0 (are_stand_ins ts) f.0)) (sites_fair rest asked v.2 f.1))

-- in a valid plan each scan is asked names of its own, and may read for them what it reads
pub plan_sites_fair : (p : Plan) → IsValid p → AllSites SiteFair p
plan_sites_fair (rose n op ts) v = sites_fair (more (rose n op ts) no_roses) (all ∷ []) (v.0, v.1, tt) (tt, tt)
