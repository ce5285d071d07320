-- What a node gives has its columns, and it gives something; so for plans.
use Rattle.std.proofs.Common.{◌≡◌, ℕ, true, false, List, [], ◌∷◌, length, Option, Some, None, unwrap_or, refl, sym, ap, subst}
use Rattle.std.specs.List.{AllByRecursion, range_with_len}
use Rattle.std.proofs.lemmas.List.Sorted.{IsPermutation-refl}
use Rattle.plan_core.specs.declared.data_type.DataType.{DataType}
use Rattle.plan_core.specs.Columns.{Columns, HasDistinctNames, names_of, type_of}
use Rattle.plan_tree.specs.Rose.{Roses, rose, no_roses, more}
use Rattle.plan_expr.specs.Exprs.{Named}
use Rattle.plan_ir.specs.Plans.{Op, slice, filter, scan, frame_scan, simple_projection, select, hstack, sort, group_by, join, distinct, map_function, sink, union, hconcat, cache, Plan}
use Rattle.plan_expr.specs.Leaves.{Name}
use Rattle.plan_expr.specs.Types.{is_plain}
use Rattle.plan_frame.specs.Exprs.{expr_type}
use Rattle.plan_meaning.specs.Functions.{function_schema}
use Rattle.plan_options.specs.declared.distinct.UniqueKeepStrategy.TheVariants.{First}
use Rattle.plan_frame.specs.Grouping.{group_exprs}
use Rattle.plan_meaning.specs.Mapped.{mapped}
use Rattle.plan_meaning.specs.Checks.{is_column, is_plain_type}
use Rattle.plan_meaning.specs.Typing.{columns_or, reader_columns, scan_columns, first_schema, schema_by, schema, schemas, checks, AllHold, AllValid}
use Rattle.plan_files.specs.FileColumns.{hive_columns, plain_columns, row_columns}
use Rattle.plan_files.proofs.FileLemmas.{path_apart}
use Rattle.plan_file_scan.specs.FileFrames.{no_frame, parts_of, scan_frame}
use Rattle.plan_file_scan.proofs.ScanFrames.{scan_has}
use Rattle.plan_scan.specs.Sources.{sources_of as scan_sources}
use Rattle.plan_frame.specs.Made.{made_schema, made, selected, grouped}
use Rattle.plan_frame.specs.Beside.{side_by_side}
use Rattle.plan_frame.specs.Frames.{Frame, HasSchema, Holds, HoldsAll, cut, in_turn, beside, rows_at}
use Rattle.plan_frame.specs.Meaning.{are_alike, val}
use Rattle.plan_frame.specs.Orders.{key_cells, rows_cmp, told_columns}
use Rattle.plan_meaning.specs.Contents.{Contents, handed_in, HasHandedIn, frames_of, FitsAt, FitsAll, Fits}
use Rattle.plan_meaning.specs.Steps.{Step, MayAll, May, IsValid}
use Rattle.plan_frame.specs.Rows.{filtered, true_rows, slice_rows}
use Rattle.plan_frame.proofs.FrameLemmas.{rows_schema, schema_holds, all_hold, cut_schema, is_type_some}
use Rattle.plan_frame.proofs.Sound.{val_sound}
use Rattle.plan_meaning.proofs.CheckParts.{scan_good, FrameGood, frame_good, projection_good, made_good, keys_good}
use Rattle.plan_frame.proofs.KeptRows.{alike_equivalence, kept_exists}
use Rattle.plan_frame.proofs.TurnLemmas.{HaveSchemas}
use Rattle.plan_join.specs.Naming.{join_columns}
use Rattle.plan_join.specs.Told.{column_keys}
use Rattle.plan_join.proofs.JoinedLemmas.{joined-has, joins-exist}
use Rattle.plan_meaning.proofs.JoinLemmas.{differ_distinct, join_good, key_fills}
use Rattle.plan_meaning.proofs.ScanRuns.{built_one, out_typed, parts_fit}
use Rattle.plan_meaning.proofs.UnionLemmas.{union_has}
use Rattle.plan_frame.proofs.BesideLemmas.{beside_has}
use Rattle.plan_meaning.proofs.FunctionLemmas.{mapped_has}
use Rattle.plan_frame.proofs.OrderLemmas.{IsKey, rows_total, sorted_exists}
use Rattle.plan_frame.proofs.MadeLemmas.{made_have, typed_fill, selected_has, grouped_has}

-- a frame that has columns holds those that are among them
among_hold : (holds : Name → DataType → Type 0) (s cs : Columns) → ((a : Name) (t : DataType) → type_of s a ≡ Some t → holds a t) → AllByRecursion (λ (c : Name × DataType). is_column s c ≡ true) cs → AllByRecursion (λ (c : Name × DataType). holds c.0 c.1) cs
among_hold holds s [] by h = tt
among_hold holds s (c ∷ cs) by h = (by c.0 c.1 (is_type_some (type_of s c.0) c.1 h.0), among_hold holds s cs by h.1)

-- a frame that is handed in holds what is put out of it
handed_holds : (c : Contents) (df : Option ℕ) (schema : Columns) (output : Option Columns) → FrameGood df schema output → HasHandedIn c schema df → HoldsAll (handed_in c df) (columns_or output schema)
handed_holds c (Some i) schema None g h = subst (λ (f : Frame). HoldsAll f schema) (sym (ap (λ (o : Option Frame). unwrap_or o no_frame) h.found)) h.holds
handed_holds c (Some i) schema (Some out) g h =
    subst (λ (f : Frame). HoldsAll f out) (sym (ap (λ (o : Option Frame). unwrap_or o no_frame) h.found))
    (among_hold (λ a t. Holds h.given (a, t)) schema out (λ a t e. all_hold h.given schema a t h.holds e) g.typed)
handed_holds c None [] None g h = tt
handed_holds c None [] (Some []) g h = tt
handed_holds c None [] (Some (o ∷ out)) g h = let k = g.known in absurd (no k.0)
  where
    no : false ≡ true → ⊥
    no e = cc
handed_holds c None (s ∷ schema) output g h = let n = g.number in absurd (no n)
  where
    no : false ≡ true → ⊥
    no e = cc

-- what keys are over a frame
plain_some : (o : Option DataType) → is_plain_type o ≡ true → (t : DataType) × (o ≡ Some t) × (is_plain t ≡ true)
plain_some None e = cc
plain_some (Some t) e = (t, refl, e)

pub keys_are : (g : Frame) (s : Columns) (keys : List Named) → HasSchema g s → AllByRecursion (λ (e : Named). is_plain_type (expr_type e.expr s) ≡ true) keys → AllByRecursion (IsKey g.height) (key_cells keys g)
keys_are g s [] has a = tt
keys_are g s (e ∷ keys) has a =
    let p = plain_some (expr_type e.expr s) a.0 in
    ((p.0, p.2, (val_sound s e.expr).by g p.0 has p.1), keys_are g s keys has a.1)

-- per node: what it gives has its columns
step_has : (c : Contents) (op : Op) (ss : List Columns) (fs : List Frame) (f : Frame) → AllHold (checks op ss) → FitsAt c op → HaveSchemas fs ss → Step c op fs f → HasSchema f (schema_by op ss)
step_has c (filter predicate) (s ∷ []) (g ∷ []) f good fit has st =
    subst (λ (x : Frame). HasSchema x s) (sym st) (rows_schema (true_rows (val predicate.expr g) g.height) g s has.0)
step_has c (scan sources info hive predicate output kind options) [] [] f good fit has st =
    let file = scan_columns info hive options in
    let out = columns_or output file in
    let good_parts = scan_good (length (scan_sources sources)) predicate output info hive options good in
    let names : HasDistinctNames file = differ_distinct (names_of file) good_parts.apart in
    let one = built_one (length (scan_sources sources)) predicate info hive options good_parts.built in
    subst (λ (x : Frame). HasSchema x out) (sym st)
    (scan_has (reader_columns info) (hive_columns hive) options (parts_of hive (scan_sources sources) (frames_of c sources)) out
    (path_apart (reader_columns info) (hive_columns hive) options names)
    (parts_fit c (reader_columns info) hive (scan_sources sources) one good_parts.alike fit)
    (out_typed output options.with_columns (row_columns options.row_index) (plain_columns (reader_columns info) (hive_columns hive)) file names good_parts.put_out))
step_has c (slice offset len) (s ∷ []) (g ∷ []) f good fit has st =
    subst (λ (x : Frame). HasSchema x s) (sym st) (rows_schema (slice_rows offset len g.height) g s has.0)
step_has c (frame_scan df schema output) [] [] f good fit has st =
    let out = columns_or output schema in
    subst (λ (x : Frame). HasSchema x out) (sym st) (cut_schema (handed_in c df) out (handed_holds c df schema output (frame_good df schema output good) fit))
step_has c (select es stored options) (s ∷ []) (g ∷ []) f good fit has st =
    subst (λ (x : Frame). HasSchema x (made_schema [] es s)) (sym st) (selected_has g s es has.0 (made_good [] es stored s good.1).typed)
step_has c (hstack es stored options) (s ∷ []) (g ∷ []) f good fit has st =
    subst (λ (x : Frame). HasSchema x (made_schema s es s)) (sym st) (made_have g.height g s es g.columns s has.0 (typed_fill g s es has.0 (made_good s es stored s good).typed))
step_has c (simple_projection cols) (s ∷ []) (g ∷ []) f good fit has st =
    subst (λ (x : Frame). HasSchema x cols) (sym st) (cut_schema g cols (among_hold (λ a t. Holds g (a, t)) s cols (λ a t e. schema_holds g s a t has.0 e) (projection_good cols s good).typed))
step_has c (sort keys part options) (s ∷ []) (g ∷ []) f good fit has st =
    subst (λ (x : Frame). HasSchema x s) (sym st.2) (rows_schema st.0 g s has.0)
step_has c (group_by keys aggs schema ordered options) (s ∷ []) (g ∷ []) f good fit has st =
    subst (λ (x : Frame). HasSchema x (made_schema [] (group_exprs keys aggs) s)) (sym st.2) (grouped_has keys aggs st.0 g s has.0 (made_good [] (group_exprs keys aggs) schema s good.1).typed)
step_has c (join left_on right_on stored told) (s ∷ t ∷ []) (g ∷ h ∷ []) f good fit has st =
    let parts = join_good left_on right_on stored told s t good in
    let columns = join_columns told.args (column_keys left_on) (column_keys right_on) s t in
    subst (λ (x : Frame). HasSchema x columns) (sym st.2)
    (joined-has told.args (column_keys left_on) (column_keys right_on) st.0 g h s t has.0 has.1.0 (key_fills left_on right_on stored told s t parts) (differ_distinct (names_of s) parts.left_differ) (differ_distinct (names_of t) parts.right_differ))
step_has c (distinct options) (s ∷ []) (g ∷ []) f good fit has st =
    subst (λ (x : Frame). HasSchema x s) (sym st.2) (rows_schema st.0 g s has.0)
step_has c (map_function function) (s ∷ []) (g ∷ []) f good fit has st = subst (λ (x : Frame). HasSchema x (function_schema function s)) (sym st) (mapped_has c function s g good has.0)
step_has c (sink payload) (s ∷ []) (g ∷ []) f good fit has st = subst (λ (x : Frame). HasSchema x s) (sym st) has.0
step_has c (union options) ss fs f good fit has st =
    subst (λ (x : Frame). HasSchema x (first_schema ss)) (sym st.2) (rows_schema st.0 (in_turn fs) (first_schema ss) (union_has options ss fs good has))
step_has c (hconcat schema options) ss fs f good fit has st = subst (λ (x : Frame). HasSchema x (side_by_side ss)) (sym st) (beside_has fs ss has)
step_has c (cache id hits) (s ∷ []) (g ∷ []) f good fit has st = subst (λ (x : Frame). HasSchema x s) (sym st) has.0
step_has c op ss fs f good fit has st = absurd (first_of (search st, cc))

-- per node: it gives something
step_runs : (c : Contents) (op : Op) (ss : List Columns) (fs : List Frame) → AllHold (checks op ss) → FitsAt c op → HaveSchemas fs ss → (f : Frame) × Step c op fs f
step_runs c (filter predicate) (s ∷ []) (g ∷ []) good fit has = (filtered predicate.expr g, refl)
step_runs c (scan sources info hive predicate output kind options) [] [] good fit has = (scan_frame (names_of (columns_or output (scan_columns info hive options))) options (parts_of hive (scan_sources sources) (frames_of c sources)), refl)
step_runs c (slice offset len) (s ∷ []) (g ∷ []) good fit has = (rows_at (slice_rows offset len g.height) g, refl)
step_runs c (frame_scan df schema output) [] [] good fit has = (cut (names_of (columns_or output schema)) (handed_in c df), refl)
step_runs c (select es stored options) (s ∷ []) (g ∷ []) good fit has = (selected es g, refl)
step_runs c (hstack es stored options) (s ∷ []) (g ∷ []) good fit has = (made g.height g.columns es g, refl)
step_runs c (simple_projection cols) (s ∷ []) (g ∷ []) good fit has = (cut (names_of cols) g, refl)
step_runs c (sort keys part options) (s ∷ []) (g ∷ []) good fit has =
    let cmp = rows_cmp (key_cells keys g) options.descending options.nulls_last in
    let total = rows_total g.height (key_cells keys g) options.descending options.nulls_last (keys_are g s keys has.0 (keys_good keys s good.1).typed) in
    let rows = sorted_exists options.maintain_order cmp g.height total in
    (rows_at rows.0 g, (rows.0, rows.1, refl))
step_runs c (group_by keys aggs schema ordered options) (s ∷ []) (g ∷ []) good fit has =
    let rows = kept_exists (are_alike (key_cells keys g)) (alike_equivalence (key_cells keys g)) g.height ordered First in
    (grouped keys aggs rows.0 g, (rows.0, rows.1, refl))
step_runs c (join left_on right_on stored told) (s ∷ t ∷ []) (g ∷ h ∷ []) good fit has = joins-exist told left_on right_on g h
step_runs c (distinct options) (s ∷ []) (g ∷ []) good fit has =
    let same = are_alike (told_columns options.subset g) in
    let rows = kept_exists same (alike_equivalence (told_columns options.subset g)) g.height options.maintain_order options.keep_strategy in
    (rows_at rows.0 g, (rows.0, rows.1, refl))
step_runs c (map_function function) (s ∷ []) (g ∷ []) good fit has = (mapped c function g, refl)
step_runs c (sink payload) (s ∷ []) (g ∷ []) good fit has = (g, refl)
step_runs c (union options) ss fs good fit has =
    let rows = range_with_len 0 (in_turn fs).height in
    (rows_at rows (in_turn fs), (rows, record { permutes = IsPermutation-refl rows; in_order = λ e. refl }, refl))
step_runs c (hconcat schema options) ss fs good fit has = (beside fs, refl)
step_runs c (cache id hits) (s ∷ []) (g ∷ []) good fit has = (g, refl)
step_runs c op ss fs good fit has = absurd (first_of (search has, cc))

-- what valid plans give has their columns
pub may_have_all : (c : Contents) (ts : Roses (Unit {0}) Op) (fs : List Frame) → AllValid ts → FitsAll c ts → MayAll c ts fs → HaveSchemas fs (schemas ts)
may_have_all c no_roses [] v fit m = tt
may_have_all c no_roses (f ∷ fs) v fit m = absurd m
may_have_all c (more (rose n op ts) rest) [] v fit m = absurd m
may_have_all c (more (rose n op ts) rest) (f ∷ fs) v fit m = (
  step_has c op (schemas ts) m.0.0 f v.0 fit.0 (may_have_all c ts m.0.0 v.1 fit.1 m.0.1) m.0.2,
  may_have_all c rest fs v.2 fit.2 m.1,
)

-- valid plans have a run over contents that fit
pub valid_run_all : (c : Contents) (ts : Roses (Unit {0}) Op) → AllValid ts → FitsAll c ts → (fs : List Frame) × MayAll c ts fs
valid_run_all c no_roses v fit = ([], tt)
valid_run_all c (more (rose n op ts) rest) v fit =
    let below = valid_run_all c ts v.1 fit.1 in
    let st = step_runs c op (schemas ts) below.0 v.0 fit.0 (may_have_all c ts below.0 v.1 fit.1 below.1) in
    let others = valid_run_all c rest v.2 fit.2 in
    (st.0 ∷ others.0, ((below.0, below.1, st.1), others.1))

-- what a valid plan gives has its columns
pub may_has : (c : Contents) (p : Plan) (f : Frame) → IsValid p → Fits c p → May c p f → HasSchema f (schema p)
may_has c (rose n op ts) f v fit m = step_has c op (schemas ts) m.0 f v.0 fit.0 (may_have_all c ts m.0 v.1 fit.1 m.1) m.2

-- a valid plan has a run over contents that fit it
pub valid_runs : (c : Contents) (p : Plan) → IsValid p → Fits c p → (f : Frame) × May c p f
valid_runs c (rose n op ts) v fit =
    let below = valid_run_all c ts v.1 fit.1 in
    let st = step_runs c op (schemas ts) below.0 v.0 fit.0 (may_have_all c ts below.0 v.1 fit.1 below.1) in
    (st.0, (below.0, below.1, st.1))
