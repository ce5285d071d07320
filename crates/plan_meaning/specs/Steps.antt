-- What a plan may give: a frame for each node, from those of its inputs.
use Rattle.std.specs.Prelude.{◌≡◌, ℕ, List, [], ◌∷◌}
use Rattle.plan_core.specs.Columns.{names_of}
use Rattle.plan_tree.specs.Rose.{Roses, rose, no_roses, more}
use Rattle.plan_ir.specs.Plans.{Op, slice, filter, scan, frame_scan, simple_projection, select, hstack, sort, group_by, join, distinct, map_function, sink, union, hconcat, cache, invalid, Plan}
use Rattle.plan_frame.specs.Frames.{Frame, rows_at, cut, in_turn, beside}
use Rattle.plan_frame.specs.Meaning.{are_alike}
use Rattle.plan_options.specs.declared.distinct.UniqueKeepStrategy.TheVariants.{First}
use Rattle.plan_file_scan.specs.FileFrames.{parts_of, scan_frame}
use Rattle.plan_meaning.specs.Mapped.{mapped}
use Rattle.plan_meaning.specs.Contents.{Contents, frames_of, handed_in}
use Rattle.plan_frame.specs.Orders.{AreAll, AreKept, AreSorted, key_cells, rows_cmp, told_columns}
use Rattle.plan_meaning.specs.Typing.{scan_columns, columns_or, schemas, checks, AllHold, AllValid}
use Rattle.plan_scan.specs.Sources.{sources_of}
use Rattle.plan_frame.specs.Rows.{filtered, slice_rows}
use Rattle.plan_join.specs.Matching.{Joins}
use Rattle.plan_frame.specs.Made.{made, selected, grouped}

-- there is no input
abbrev pub OnNone : List Frame → Type 0 → Type 0
OnNone [] P = P
OnNone (f ∷ fs) P = ⊥

-- there is one input, and this holds of it
abbrev pub OnOne : List Frame → (Frame → Type 0) → Type 0
OnOne (f ∷ []) P = P f
OnOne _ P = ⊥

-- there are two inputs, and this holds of them
abbrev pub OnTwo : List Frame → (Frame → Frame → Type 0) → Type 0
OnTwo (f ∷ g ∷ []) P = P f g
OnTwo _ P = ⊥

-- whether a node may give this frame from its inputs' frames: a slice or a filter some of the rows, a scan its sources one after another, with the numbers of its rows, its hive values and its paths, or a frame that is handed in, a projection its columns in their order, a selection what its expressions make, an addition that beside the input's columns, a sort all rows in an order, a grouping what it makes of the first row of each group, in their order or any, a join what it makes of pairs of rows that it may take, distinct rows some of them, a function what it makes of the whole frame, a union the rows of its inputs in turn or in any order, a concatenation its inputs beside one another, and a sink and a cache their input
abbrev pub Step : Contents → Op → List Frame → Frame → Type 0
Step c (slice offset len) fs f = OnOne fs (λ g. f ≡ rows_at (slice_rows offset len g.height) g)
Step c (filter predicate) fs f = OnOne fs (λ g. f ≡ filtered predicate.expr g)
Step c (scan sources info hive predicate output kind options) fs f = OnNone fs (f ≡ scan_frame (names_of (columns_or output (scan_columns info hive options))) options (parts_of hive (sources_of sources) (frames_of c sources)))
Step c (frame_scan df schema output) fs f = OnNone fs (f ≡ cut (names_of (columns_or output schema)) (handed_in c df))
Step c (simple_projection columns) fs f = OnOne fs (λ g. f ≡ cut (names_of columns) g)
Step c (select exprs schema options) fs f = OnOne fs (λ g. f ≡ selected exprs g)
Step c (hstack exprs schema options) fs f = OnOne fs (λ g. f ≡ made g.height g.columns exprs g)
Step c (sort keys part options) fs f = OnOne fs (λ g. (rows : List ℕ) × AreSorted options.maintain_order (rows_cmp (key_cells keys g) options.descending options.nulls_last) g.height rows × (f ≡ rows_at rows g))
Step c (group_by keys aggs schema ordered options) fs f = OnOne fs (λ g. (rows : List ℕ) × AreKept ordered First (are_alike (key_cells keys g)) g.height rows × (f ≡ grouped keys aggs rows g))
Step c (join left_on right_on schema told) fs f = OnTwo fs (λ g h. Joins told left_on right_on g h f)
Step c (distinct options) fs f = OnOne fs (λ g. (rows : List ℕ) × AreKept options.maintain_order options.keep_strategy (are_alike (told_columns options.subset g)) g.height rows × (f ≡ rows_at rows g))
Step c (map_function function) fs f = OnOne fs (λ g. f ≡ mapped c function g)
Step c (sink payload) fs f = OnOne fs (λ g. f ≡ g)
Step c (union options) fs f = (rows : List ℕ) × AreAll options.maintain_order (in_turn fs).height rows × (f ≡ rows_at rows (in_turn fs))
Step c (hconcat schema options) fs f = f ≡ beside fs
Step c (cache id hits) fs f = OnOne fs (λ g. f ≡ g)
Step c invalid fs f = ⊥

-- plans may give these frames, one for one: each the frame of its root, by a step from frames that its inputs may give
abbrev pub MayAll : Contents → Roses (Unit {0}) Op → List Frame → Type 0
MayAll c no_roses [] = Unit {0}
MayAll c no_roses (f ∷ fs) = ⊥
MayAll c (more (rose n op ts) rest) [] = ⊥
MayAll c (more (rose n op ts) rest) (f ∷ fs) = ((gs : List Frame) × MayAll c ts gs × Step c op gs f) × MayAll c rest fs

-- a plan may give this frame
abbrev pub May : Contents → Plan → Frame → Type 0
May c (rose n op ts) f = (gs : List Frame) × MayAll c ts gs × Step c op gs f

-- all checks hold at all nodes of a plan
abbrev pub IsValid : Plan → Type 0
IsValid (rose n op ts) = AllHold (checks op (schemas ts)) × AllValid ts
