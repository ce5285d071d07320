-- A valid plan gives a frame over contents that fit it.
use Rattle.std.proofs.Common.{true, List, [], ◌∷◌, refl}
use Rattle.std.specs.List.{range_with_len}
use Rattle.plan_core.specs.Columns.{Columns, names_of}
use Rattle.plan_tree.specs.Rose.{Roses, rose, no_roses, more}
use Rattle.plan_options.specs.declared.distinct.UniqueKeepStrategy.TheVariants.{First}
use Rattle.plan_scan.specs.Sources.{sources_of as scan_sources}
use Rattle.plan_file_scan.specs.FileFrames.{parts_of, scan_frame}
use Rattle.plan_frame.specs.Frames.{Frame, beside, cut, in_turn, rows_at}
use Rattle.plan_frame.specs.Made.{grouped, made, selected}
use Rattle.plan_frame.specs.Meaning.{are_alike}
use Rattle.plan_frame.specs.Orders.{key_cells, rows_cmp, told_columns}
use Rattle.plan_frame.specs.Rows.{filtered, slice_rows}
use Rattle.plan_frame.proofs.KeptRows.{alike_equivalence, kept_exists}
use Rattle.plan_frame.proofs.OrderLemmas.{rows_total}
use Rattle.plan_frame.proofs.TurnLemmas.{HaveSchemas}
use Rattle.plan_join.proofs.JoinedLemmas.{joins-exist}
use Rattle.plan_ir.specs.Plans.{Op, Plan, slice, filter, scan, frame_scan, simple_projection, select, hstack, sort, group_by, join, distinct, map_function, sink, union, hconcat, cache}
use Rattle.plan_meaning.specs.Contents.{Contents, FitsAt, FitsAll, Fits, frames_of, handed_in}
use Rattle.plan_meaning.specs.Mapped.{mapped}
use Rattle.plan_meaning.specs.Steps.{IsValid}
use Rattle.plan_meaning.specs.Typing.{AllHold, AllValid, checks, columns_or, scan_columns, schemas}
use Rattle.plan_meaning.proofs.CheckParts.{keys_good}
use Rattle.plan_meaning.proofs.Runs.{keys_are, may_have_all}
use Rattle.plan_join.specs.OwnOrders.{own_told}
use Rattle.plan_meaning.specs.Choices.{ChooseAll, Chooses, Chosen}
use Rattle.plan_meaning.proofs.ChosenMay.{all-may}
use Rattle.plan_meaning.proofs.ChosenRows.{chosen_exists, ranked_exists}

-- per node: it gives a frame
step_chooses : (c : Contents) (op : Op) (ss : List Columns) (fs : List Frame) → AllHold (checks op ss) → FitsAt c op → HaveSchemas fs ss → (f : Frame) × Chosen c op fs f
step_chooses c (filter predicate) (s ∷ []) (g ∷ []) good fit has = (filtered predicate.expr g, refl)
step_chooses c (scan sources info hive predicate output kind options) [] [] good fit has = (scan_frame (names_of (columns_or output (scan_columns info hive options))) options (parts_of hive (scan_sources sources) (frames_of c sources)), refl)
step_chooses c (slice offset len) (s ∷ []) (g ∷ []) good fit has = (rows_at (slice_rows offset len g.height) g, refl)
step_chooses c (frame_scan df schema output) [] [] good fit has = (cut (names_of (columns_or output schema)) (handed_in c df), refl)
step_chooses c (select es stored options) (s ∷ []) (g ∷ []) good fit has = (selected es g, refl)
step_chooses c (hstack es stored options) (s ∷ []) (g ∷ []) good fit has = (made g.height g.columns es g, refl)
step_chooses c (simple_projection cols) (s ∷ []) (g ∷ []) good fit has = (cut (names_of cols) g, refl)
step_chooses c (sort keys part options) (s ∷ []) (g ∷ []) good fit has =
    let cmp = rows_cmp (key_cells keys g) options.descending options.nulls_last in
    let total = rows_total g.height (key_cells keys g) options.descending options.nulls_last (keys_are g s keys has.0 (keys_good keys s good.1).typed) in
    let rows = ranked_exists cmp g.height total in
    (rows_at rows.0 g, (rows.0, rows.1, refl))
step_chooses c (group_by keys aggs schema ordered options) (s ∷ []) (g ∷ []) good fit has =
    let rows = kept_exists (are_alike (key_cells keys g)) (alike_equivalence (key_cells keys g)) g.height true First in
    (grouped keys aggs rows.0 g, (rows.0, rows.1, refl))
step_chooses c (join left_on right_on stored told) (s ∷ t ∷ []) (g ∷ h ∷ []) good fit has = joins-exist (own_told told) left_on right_on g h
step_chooses c (distinct options) (s ∷ []) (g ∷ []) good fit has =
    let cells = told_columns options.subset g in
    let rows = chosen_exists options.maintain_order options.keep_strategy (are_alike cells) (alike_equivalence cells) g.height in
    (rows_at rows.0 g, (rows.0, rows.1, refl))
step_chooses c (map_function function) (s ∷ []) (g ∷ []) good fit has = (mapped c function g, refl)
step_chooses c (sink payload) (s ∷ []) (g ∷ []) good fit has = (g, refl)
step_chooses c (union options) ss fs good fit has = (rows_at (range_with_len 0 (in_turn fs).height) (in_turn fs), refl)
step_chooses c (hconcat schema options) ss fs good fit has = (beside fs, refl)
step_chooses c (cache id hits) (s ∷ []) (g ∷ []) good fit has = (g, refl)
step_chooses c op ss fs good fit has = absurd (first_of (search has, cc))

-- valid plans give frames over contents that fit them
valid_choose_all : (c : Contents) (ts : Roses (Unit {0}) Op) → AllValid ts → FitsAll c ts → (fs : List Frame) × ChooseAll c ts fs
valid_choose_all c no_roses v fit = ([], tt)
valid_choose_all c (more (rose n op ts) rest) v fit =
    let below = valid_choose_all c ts v.1 fit.1 in
    let st = step_chooses c op (schemas ts) below.0 v.0 fit.0 (may_have_all c ts below.0 v.1 fit.1 (all-may c ts below.0 below.1)) in
    let others = valid_choose_all c rest v.2 fit.2 in
    (st.0 ∷ others.0, ((below.0, below.1, st.1), others.1))

-- a valid plan gives a frame over contents that fit it
pub valid_plans_choose : (c : Contents) (p : Plan) → IsValid p → Fits c p → (f : Frame) × Chooses c p f
valid_plans_choose c (rose n op ts) v fit =
    let below = valid_choose_all c ts v.1 fit.1 in
    let st = step_chooses c op (schemas ts) below.0 v.0 fit.0 (may_have_all c ts below.0 v.1 fit.1 (all-may c ts below.0 below.1)) in
    (st.0, (below.0, below.1, st.1))
