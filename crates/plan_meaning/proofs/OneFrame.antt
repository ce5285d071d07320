-- The frame that a plan gives is that of each plan that is alike.
use Rattle.std.proofs.Common.{◌≡◌, ◌∙◌, ℕ, true, List, [], ◌∷◌, refl, sym, ap, ap₂, subst, true≢false}
use Rattle.plan_core.specs.Columns.{names_of}
use Rattle.plan_tree.specs.Rose.{Roses, map_roses, rose, no_roses, more}
use Rattle.plan_options.specs.declared.distinct.UniqueKeepStrategy.TheVariants as keeps
use Rattle.plan_frame.specs.Frames.{Frame, cut, rows_at}
use Rattle.plan_frame.specs.Made.{grouped, made, selected}
use Rattle.plan_frame.specs.Meaning.{are_alike}
use Rattle.plan_frame.specs.Orders.{key_cells, told_columns}
use Rattle.plan_frame.specs.Rows.{filtered, slice_rows}
use Rattle.plan_frame.proofs.KeptRows.{alike_equivalence}
use Rattle.plan_join.specs.Told.{column_keys}
use Rattle.plan_join.specs.Joined.{joined}
use Rattle.plan_join.specs.declared.pairs.RowPair.{RowPair}
use Rattle.plan_ir.specs.Plans.{Op, Plan, slice, filter, scan, frame_scan, simple_projection, select, hstack, sort, group_by, join, distinct, map_function, sink, union, hconcat, cache, invalid}
use Rattle.plan_meaning.specs.Contents.{Contents}
use Rattle.plan_meaning.specs.Marks.{unmarked, unmarked_op}
use Rattle.plan_meaning.specs.Mapped.{mapped}
use Rattle.plan_meaning.specs.Steps.{OnOne}
use Rattle.plan_meaning.specs.Choices.{ChooseAll, Chooses, Chosen}
use Rattle.plan_meaning.proofs.OneChoice.{one-choice}
use Rattle.plan_meaning.proofs.OneOrder.{one-pairing, one-ranking}

-- One frame is chosen

one-input : (F : Frame → Frame) (fs : List Frame) (f g : Frame) → OnOne fs (λ i. f ≡ F i) → OnOne fs (λ i. g ≡ F i) → f ≡ g
one-input F [] f g h k = absurd h
one-input F (i ∷ []) f g h k = h ∙ sym k
one-input F (i ∷ j ∷ fs) f g h k = absurd h

by-rows : {X : Type 0} (F : X → Frame) (f g : Frame) (xs ys : X) → xs ≡ ys → f ≡ F xs → g ≡ F ys → f ≡ g
by-rows F f g xs ys e h k = h ∙ ap F e ∙ sym k

one-step : (c : Contents) (op : Op) (fs : List Frame) (f g : Frame) → Chosen c op fs f → Chosen c op fs g → f ≡ g
one-step c (slice offset len) fs f g h k = one-input (λ i. rows_at (slice_rows offset len i.height) i) fs f g h k
one-step c (filter predicate) fs f g h k = one-input (filtered predicate.expr) fs f g h k
one-step c (scan sources info hive predicate output kind options) [] f g h k = h ∙ sym k
one-step c (scan sources info hive predicate output kind options) (i ∷ fs) f g h k = absurd h
one-step c (frame_scan df schema output) [] f g h k = h ∙ sym k
one-step c (frame_scan df schema output) (i ∷ fs) f g h k = absurd h
one-step c (simple_projection columns) fs f g h k = one-input (cut (names_of columns)) fs f g h k
one-step c (select exprs schema options) fs f g h k = one-input (selected exprs) fs f g h k
one-step c (hstack exprs schema options) fs f g h k = one-input (λ i. made i.height i.columns exprs i) fs f g h k
one-step c (sort keys part options) [] f g h k = absurd h
one-step c (sort keys part options) (i ∷ []) f g h k =
    by-rows (λ (rows : List ℕ). rows_at rows i) f g h.0 k.0 (one-ranking (key_cells keys i) options.descending options.nulls_last i.height h.0 k.0 h.1 k.1) h.2 k.2
one-step c (sort keys part options) (i ∷ j ∷ fs) f g h k = absurd h
one-step c (group_by keys aggs schema ordered options) [] f g h k = absurd h
one-step c (group_by keys aggs schema ordered options) (i ∷ []) f g h k =
    let same = are_alike (key_cells keys i) in
    by-rows (λ (rows : List ℕ). grouped keys aggs rows i) f g h.0 k.0
    (one-choice same (alike_equivalence (key_cells keys i)) i.height keeps.First true h.0 k.0 (record { kept = h.1; by_firsts = λ e. absurd (true≢false e) }) (record { kept = k.1; by_firsts = λ e. absurd (true≢false e) })) h.2 k.2
one-step c (group_by keys aggs schema ordered options) (i ∷ j ∷ fs) f g h k = absurd h
one-step c (join left_on right_on schema told) [] f g h k = absurd h
one-step c (join left_on right_on schema told) (i ∷ []) f g h k = absurd h
one-step c (join left_on right_on schema told) (i ∷ j ∷ []) f g h k =
    by-rows (λ (ps : List RowPair). joined told.args (column_keys left_on) (column_keys right_on) ps i j) f g h.0 k.0
    (one-pairing told.args.maintain_order _ h.0 k.0 h.1.pairs k.1.pairs h.1.in_order k.1.in_order) h.2 k.2
one-step c (join left_on right_on schema told) (i ∷ j ∷ l ∷ fs) f g h k = absurd h
one-step c (distinct options) [] f g h k = absurd h
one-step c (distinct options) (i ∷ []) f g h k =
    by-rows (λ (rows : List ℕ). rows_at rows i) f g h.0 k.0
    (one-choice (are_alike (told_columns options.subset i)) (alike_equivalence (told_columns options.subset i)) i.height options.keep_strategy options.maintain_order h.0 k.0 h.1 k.1) h.2 k.2
one-step c (distinct options) (i ∷ j ∷ fs) f g h k = absurd h
one-step c (map_function function) fs f g h k = one-input (mapped c function) fs f g h k
one-step c (sink payload) fs f g h k = one-input (λ i. i) fs f g h k
one-step c (union options) fs f g h k = h ∙ sym k
one-step c (hconcat schema options) fs f g h k = h ∙ sym k
one-step c (cache id hits) fs f g h k = one-input (λ i. i) fs f g h k
one-step c invalid fs f g h k = absurd h

one-all : (c : Contents) (ts : Roses (Unit {0}) Op) (fs gs : List Frame) → ChooseAll c ts fs → ChooseAll c ts gs → fs ≡ gs
one-all c no_roses [] [] h k = refl
one-all c no_roses (f ∷ fs) gs h k = absurd h
one-all c no_roses [] (g ∷ gs) h k = absurd k
one-all c (more (rose n op ts) rest) [] gs h k = absurd h
one-all c (more (rose n op ts) rest) (f ∷ fs) [] h k = absurd k
one-all c (more (rose n op ts) rest) (f ∷ fs) (g ∷ gs) h k =
    let below = one-all c ts h.0.0 k.0.0 h.0.1 k.0.1 in
    ap₂ (λ (x : Frame) (xs : List Frame). x ∷ xs) (one-step c op k.0.0 f g (subst (λ (is : List Frame). Chosen c op is f) below h.0.2) k.0.2) (one-all c rest fs gs h.1 k.1)

one-frame : (c : Contents) (p : Plan) (f g : Frame) → Chooses c p f → Chooses c p g → f ≡ g
one-frame c (rose n op ts) f g h k =
    let below = one-all c ts h.0 k.0 h.1 k.1 in
    one-step c op k.0 f g (subst (λ (is : List Frame). Chosen c op is f) below h.2) k.2

-- Marks change no frame

unmarked-step : (c : Contents) (op : Op) (fs : List Frame) (f : Frame) → Chosen c op fs f → Chosen c (unmarked_op op) fs f
unmarked-step c (scan sources info hive predicate output kind options) fs f h = h
unmarked-step c (union options) fs f h = h
unmarked-step c op fs f h = h

unmarked-all : (c : Contents) (ts : Roses (Unit {0}) Op) (fs : List Frame) → ChooseAll c ts fs → ChooseAll c (map_roses (λ m. m) unmarked_op ts) fs
unmarked-all c no_roses [] h = tt
unmarked-all c no_roses (f ∷ fs) h = h
unmarked-all c (more (rose n op ts) rest) [] h = h
unmarked-all c (more (rose n op ts) rest) (f ∷ fs) h = ((h.0.0, unmarked-all c ts h.0.0 h.0.1, unmarked-step c op h.0.0 f h.0.2), unmarked-all c rest fs h.1)

unmarked-frame : (c : Contents) (p : Plan) (f : Frame) → Chooses c p f → Chooses c (unmarked p) f
unmarked-frame c (rose n op ts) f h = (h.0, unmarked-all c ts h.0 h.1, unmarked-step c op h.0 f h.2)

-- plans that are alike give one frame
pub choices-one : (c : Contents) (p q : Plan) (f g : Frame) → unmarked p ≡ unmarked q → Chooses c p f → Chooses c q g → f ≡ g
choices-one c p q f g alike h k = one-frame c (unmarked q) f g (subst (λ (r : Plan). Chooses c r f) alike (unmarked-frame c p f h)) (unmarked-frame c q g k)
