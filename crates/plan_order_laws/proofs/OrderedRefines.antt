-- A plan without the sorts that nothing observes refines the plan; below an absent demand it reorders it.
use Rattle.std.proofs.Common.{◌≡◌, ℕ, ℤ, ◌&&◌, ◌||◌, Bool, true, false, not, cond, List, [], ◌∷◌, length, map, Option, refl, sym, ap, ap₂, ◌∙◌, subst}
use Rattle.std.specs.List.{range_with_len}
use Rattle.std.specs.List.Sorted.{IsPermutation}
use Rattle.std.proofs.lemmas.List.Sorted.{IsPermutation-refl, IsPermutation-sym, IsPermutation-trans}
use Rattle.plan_core.specs.Columns.{Columns}
use Rattle.plan_core.specs.declared.options.ProjectionOptions.{ProjectionOptions}
use Rattle.plan_tree.specs.Rose.{Roses, rose, no_roses, more}
use Rattle.plan_options.specs.declared.distinct.DistinctOptionsIR.{DistinctOptionsIR}
use Rattle.plan_options.specs.declared.distinct.UniqueKeepStrategy.TheVariants as keeps
use Rattle.plan_options.specs.declared.group.GroupbyOptions.{GroupbyOptions}
use Rattle.plan_options.specs.declared.sort.SortMultipleOptions.{SortMultipleOptions}
use Rattle.plan_options.specs.declared.union.UnionOptions.{UnionOptions}
use Rattle.plan_expr.specs.Exprs.{Named}
use Rattle.plan_ir.specs.Plans.{Op, slice, filter, scan, frame_scan, simple_projection, select, hstack, sort, group_by, join, distinct, map_function, sink, union, hconcat, cache, invalid, Plan}
use Rattle.plan_frame.specs.ExprLists.{all_scalar}
use Rattle.plan_frame.specs.Frames.{Column, Frame, HasSchema, column_names, column_or, in_turn, names_or, picked_columns, rows_at, with_columns}
use Rattle.plan_frame.proofs.MadeLemmas.{selected_has}
use Rattle.plan_meaning.proofs.CheckParts.{made_good, keys_good}
use Rattle.plan_options.specs.declared.distinct.UniqueKeepStrategy.{UniqueKeepStrategy}
use Rattle.plan_expr.specs.Leaves.{Name}
use Rattle.plan_meaning.specs.Typing.{is_built_distinct, is_built_union, AllHold, AllValid, checks, first_schema, schema, schema_by, schemas}
use Rattle.plan_frame.specs.Made.{grouped, made, selected}
use Rattle.plan_frame.specs.Meaning.{Cell, are_alike, many}
use Rattle.plan_frame.specs.Orders.{AreKept, AreSorted, key_cells, rows_cmp, told_columns}
use Rattle.plan_frame.proofs.KeptRows.{alike_equivalence}
use Rattle.plan_frame.proofs.OrderLemmas.{rows_total, sorted_exists}
use Rattle.plan_frame.proofs.TurnLemmas.{AllAre, HaveSchemas}
use Rattle.plan_meaning.specs.Contents.{Contents, FitsAt}
use Rattle.plan_meaning.specs.PlanAt.{one_plan}
use Rattle.plan_meaning.specs.Relating.{Refines, Relates}
use Rattle.plan_meaning.specs.Steps.{IsValid, Step}
use Rattle.plan_meaning.proofs.Refining.{relates_refines}
use Rattle.plan_meaning.proofs.Related.{AllRelate, FramesRelated, SchemasRelated, relates_drop, relates_node}
use Rattle.plan_meaning.proofs.Runs.{keys_are, may_has}
use Rattle.plan_order_laws.specs.Elementwise.{all_elementwise, all_summaries}
use Rattle.plan_order_laws.specs.Demands.{demands, ordered, ordered_in, with_order}
use Rattle.plan_order_laws.specs.Orderless.{distinct_demands}
use Rattle.plan_order_laws.specs.Reordering.{Reordering, LastLoose}
use Rattle.plan_order_laws.specs.Reorders.{Reorders}
use Rattle.plan_order_laws.proofs.Rows.{permuted_below, permuted_twice, reordered_rows, rows_twice}
use Rattle.plan_order_laws.specs.Rows.{nth, IsLevel, rows_cell}
use Rattle.plan_order_laws.proofs.Cells.{column_rows, level_frame, whole_rows}
use Rattle.plan_order_laws.proofs.GroupedRows.{group_rows}
use Rattle.plan_order_laws.proofs.MadeRows.{added_rows, alone_rows, scalar_rows, keys_rows}
use Rattle.plan_order_laws.proofs.PickedRows.{alike_rows, cmp_rows, sort_rows}
use Rattle.plan_order_laws.proofs.KeptInOrder.{kept_in_order, kept_rows}
use Rattle.plan_order_laws.proofs.TurnRows.{turned_rows}
use Rattle.plan_meaning.proofs.UnionLemmas.{never_built, union_inputs}

abbrev Plans : Type 0
Plans = Roses (Unit {0}) Op

-- the family: columns are the same; frames are, or have their rows in any order
abbrev pub SameColumns : Bool → Columns → Columns → Type 0
SameColumns d s t = s ≡ t

abbrev pub InOrderOf : Bool → Frame → Frame → Type 0
InOrderOf true f g = f ≡ g
InOrderOf false f g = Reordering f g

abbrev pub Observed : Bool → Plan → Plan → Type 0
Observed d q p = Relates (SameColumns d) (InOrderOf d) q p

abbrev pub AllObserved : List Bool → Plans → Plans → Type 0
AllObserved = AllRelate Bool SameColumns InOrderOf

-- which of some inputs are observed: all before the last are
abbrev pub views : Bool → Plans → List Bool
views d no_roses = []
views d (more p no_roses) = d ∷ []
views d (more p (more q rest)) = true ∷ views d (more q rest)

same_columns : (vs : List Bool) (rs ss : List Columns) → SchemasRelated Bool SameColumns InOrderOf vs rs ss → rs ≡ ss
same_columns [] [] [] h = refl
same_columns (d ∷ vs) (r ∷ rs) (s ∷ ss) h = ap₂ (λ (x : Columns) (xs : List Columns). x ∷ xs) h.0 (same_columns vs rs ss h.1)
same_columns [] [] (s ∷ ss) h = absurd h
same_columns [] (r ∷ rs) ss h = absurd h
same_columns (d ∷ vs) [] ss h = absurd h
same_columns (d ∷ vs) (r ∷ rs) [] h = absurd h

same_frames : (ts : Plans) (fs gs : List Frame) → FramesRelated Bool SameColumns InOrderOf (views true ts) fs gs → fs ≡ gs
same_frames no_roses [] [] h = refl
same_frames (more p no_roses) (f ∷ []) (g ∷ []) h = ap (λ (x : Frame). x ∷ []) h.0
same_frames (more p (more q rest)) (f ∷ fs) (g ∷ gs) h = ap₂ (λ (x : Frame) (xs : List Frame). x ∷ xs) h.0 (same_frames (more q rest) fs gs h.1)
same_frames no_roses [] (g ∷ gs) h = absurd h
same_frames no_roses (f ∷ fs) gs h = absurd h
same_frames (more p no_roses) [] gs h = absurd h
same_frames (more p no_roses) (f ∷ fs) [] h = absurd h
same_frames (more p no_roses) (f ∷ f' ∷ fs) (g ∷ gs) h = absurd h.1
same_frames (more p no_roses) (f ∷ []) (g ∷ g' ∷ gs) h = absurd h.1
same_frames (more p (more q rest)) [] gs h = absurd h
same_frames (more p (more q rest)) (f ∷ fs) [] h = absurd h

loose_frames : (p : Plan) (ts : Plans) (fs gs : List Frame) → FramesRelated Bool SameColumns InOrderOf (views false (more p ts)) fs gs → LastLoose fs gs
loose_frames p no_roses (f ∷ []) (g ∷ []) h = h.0
loose_frames p (more q rest) (f ∷ fs) (g ∷ gs) h = at fs gs h.0 (loose_frames q rest fs gs h.1)
  where
    at : (fs gs : List Frame) → f ≡ g → LastLoose fs gs → LastLoose (f ∷ fs) (g ∷ gs)
    at (f' ∷ fs) (g' ∷ gs) e k = (e, k)
    at [] gs e k = absurd k
    at (f' ∷ fs) [] e k = at_none f' fs e k
      where
        at_none : (f' : Frame) (fs : List Frame) → f ≡ g → LastLoose (f' ∷ fs) [] → LastLoose (f ∷ f' ∷ fs) (g ∷ [])
        at_none f' [] e k = absurd k
        at_none f' (x ∷ xs) e k = absurd k
loose_frames p no_roses [] gs h = absurd h
loose_frames p no_roses (f ∷ fs) [] h = absurd h
loose_frames p no_roses (f ∷ f' ∷ fs) (g ∷ gs) h = absurd h.1
loose_frames p no_roses (f ∷ []) (g ∷ g' ∷ gs) h = absurd h.1
loose_frames p (more q rest) [] gs h = absurd h
loose_frames p (more q rest) (f ∷ fs) [] h = absurd h

-- a frame has its own rows in some order
itself : (g : Frame) (s : Columns) → HasSchema g s → Reordering g g
itself g s has = record { rows = range_with_len 0 g.height; permutes = IsPermutation-refl (range_with_len 0 g.height); is = sym (whole_rows g s has) }

-- what is the same is so in any order
pub weaker : (d : Bool) (q p : Plan) → IsValid p → Observed true q p → Observed d q p
weaker true q p v h = h
weaker false q p v h = record {
  valid = h.valid;
  schema = h.schema;
  fits = h.fits;
  run = h.run;
  may = λ c f k m.
      let x = h.may c f k m in
      (x.0, x.1, subst (λ (y : Frame). Reordering y x.0) (sym x.2) (itself x.0 (schema p) (may_has c p x.0 v k x.1)));
}

-- a node with another mark over inputs whose order it demands
equal_node : (d : Bool) (o op : Op) (rs ts : Plans) → IsValid (rose tt op ts) → AllObserved (views true ts) rs ts → (AllHold (checks op (schemas ts)) → AllHold (checks o (schemas ts))) → schema_by o (schemas ts) ≡ schema_by op (schemas ts) → ((c : Contents) → FitsAt c op → FitsAt c o) → ((c : Contents) (fs : List Frame) (f : Frame) → Step c o fs f → Step c op fs f) → Observed d (rose tt o rs) (rose tt op ts)
equal_node d o op rs ts v h good named fits by =
    weaker d (rose tt o rs) (rose tt op ts) v
    (relates_node Bool SameColumns InOrderOf o op (views true ts) true rs ts v h (λ k.
    let e = same_columns (views true ts) (schemas rs) (schemas ts) k in
    record {
      good = subst (λ (ss : List Columns). AllHold (checks o ss)) (sym e) (good v.0);
      schema = ap (schema_by o) e ∙ named;
      fits = fits;
      step = λ c fs gs f k hr has ag st. (f, by c gs f (subst (λ (xs : List Frame). Step c o xs f) (same_frames ts fs gs ag) st), refl);
    }))

same_node : (d : Bool) (op : Op) (rs ts : Plans) → IsValid (rose tt op ts) → AllObserved (views true ts) rs ts → Observed d (rose tt op rs) (rose tt op ts)
same_node d op rs ts v h = equal_node d op op rs ts v h (λ g. g) refl (λ c k. k) (λ c fs f st. st)

-- a node over one input whose rows may stand in another order
loose_one : (d : Bool) (o op : Op) (rs : Plans) (t : Plan) (s : Columns) → schemas (more t no_roses) ≡ s ∷ [] → IsValid (rose tt op (more t no_roses)) → AllObserved (false ∷ []) rs (more t no_roses) → AllHold (checks o (s ∷ [])) → schema_by o (s ∷ []) ≡ schema_by op (s ∷ []) → ((c : Contents) → FitsAt c op → FitsAt c o) → ((c : Contents) (g : Frame) (ps : List ℕ) (f : Frame) → HasSchema g s → IsPermutation (range_with_len 0 g.height) ps → Step c o (rows_at ps g ∷ []) f → (h : Frame) × Step c op (g ∷ []) h × InOrderOf d f h) → Observed d (rose tt o rs) (rose tt op (more t no_roses))
loose_one d o op rs t s is v h good named fits by =
    relates_node Bool SameColumns InOrderOf o op (false ∷ []) d rs (more t no_roses) v h (λ k.
    let e = same_columns (false ∷ []) (schemas rs) (schemas (more t no_roses)) k ∙ is in
    record {
      good = subst (λ (ss : List Columns). AllHold (checks o ss)) (sym e) good;
      schema = ap (schema_by o) e ∙ named ∙ ap (schema_by op) (sym is);
      fits = fits;
      step = λ c fs gs f k hr has ag st. at c fs gs f (subst (λ (ss : List Columns). HaveSchemas gs ss) is has) ag st;
    })
  where
    at : (c : Contents) (fs gs : List Frame) (f : Frame) → HaveSchemas gs (s ∷ []) → FramesRelated Bool SameColumns InOrderOf (false ∷ []) fs gs → Step c o fs f → (h : Frame) × Step c op gs h × InOrderOf d f h
    at c (f0 ∷ []) (g0 ∷ []) f has ag st = by c g0 ag.0.rows f has.0 ag.0.permutes (subst (λ (x : Frame). Step c o (x ∷ []) f) ag.0.is st)
    at c [] gs f has ag st = absurd ag
    at c (f0 ∷ fs) [] f has ag st = absurd ag
    at c (f0 ∷ f1 ∷ fs) (g0 ∷ gs) f has ag st = absurd ag.1
    at c (f0 ∷ []) (g0 ∷ g1 ∷ gs) f has ag st = absurd ag.1

-- Booleans

neither : (a b : Bool) → (a || not b) ≡ false → (a ≡ false) × (b ≡ true)
neither true b e = cc
neither false true e = (refl, refl)
neither false false e = cc

neither_pair : (o a b : Bool) → (o || not (a && b)) ≡ false → (o ≡ false) × (a ≡ true) × (b ≡ true)
neither_pair true a b e = cc
neither_pair false true true e = (refl, refl, refl)
neither_pair false true false e = cc
neither_pair false false b e = cc

not_true : (b : Bool) → not b ≡ false → b ≡ true
not_true true e = refl
not_true false e = cc

-- Sorts

module _ (keys : List Named) (part : Option (ℤ × ℕ)) (options : SortMultipleOptions) where
  abbrev op : Op
  op = sort keys part options

  sort_step : (c : Contents) (g : Frame) (s : Columns) (ps : List ℕ) (f : Frame) → HasSchema g s → options.maintain_order ≡ false → all_elementwise keys ≡ true → IsPermutation (range_with_len 0 g.height) ps → Step c (sort keys part options) (rows_at ps g ∷ []) f → (h : Frame) × Step c (sort keys part options) (g ∷ []) h × (f ≡ h)
  sort_step c g s ps f has loose w p st =
      let level = level_frame g s has in
      let below = permuted_below g.height ps p in
      let ds = options.descending in
      let ns = options.nulls_last in
      let by : AreSorted false (rows_cmp (map (rows_cell ps) (key_cells keys g)) ds ns) (length ps) st.0 =
      subst (λ (cs : List Cell). AreSorted false (rows_cmp cs ds ns) (length ps) st.0) (keys_rows g ps below level keys w) (subst (λ (b : Bool). AreSorted b (rows_cmp (key_cells keys (rows_at ps g)) ds ns) (length ps) st.0) loose st.1) in
      let sorted : AreSorted options.maintain_order (rows_cmp (key_cells keys g) ds ns) g.height (map (nth ps) st.0) =
      subst (λ (b : Bool). AreSorted b (rows_cmp (key_cells keys g) ds ns) g.height (map (nth ps) st.0)) (sym loose)
      (sort_rows g.height ps st.0 (rows_cmp (map (rows_cell ps) (key_cells keys g)) ds ns) (rows_cmp (key_cells keys g) ds ns) p (λ i j lt k. cmp_rows ps (key_cells keys g) ds ns i j lt k) by) in
      (rows_at (map (nth ps) st.0) g, (map (nth ps) st.0, sorted, refl), st.2 ∙ rows_twice ps st.0 g (permuted_below (length ps) st.0 st.1.permutes))

  sort_kept : (b : Bool) → (options.maintain_order || not (all_elementwise keys)) ≡ b → (rs ts : Plans) → IsValid (rose tt (sort keys part options) ts) → AllObserved (views b ts) rs ts → Observed true (rose tt (sort keys part options) rs) (rose tt (sort keys part options) ts)
  sort_kept true e rs ts v h = same_node true (sort keys part options) rs ts v h
  sort_kept false e rs (more (rose n o us) no_roses) v h =
      let q = neither options.maintain_order (all_elementwise keys) e in
      let s = schema_by o (schemas us) in
      loose_one true (sort keys part options) (sort keys part options) rs (rose n o us) s refl v h v.0 refl (λ c k. k) (λ c g ps f has p st. sort_step c g s ps f has q.0 q.1 p st)
  sort_kept false e rs no_roses v h = cc
  sort_kept false e rs (more (rose n o us) (more (rose m o' us') rest)) v h = cc

  -- without demand the rows of a sort are those of its input, in any order
  sort_dropped : (rs ts : Plans) → IsValid (rose tt (sort keys part options) ts) → AllObserved (views false ts) rs ts → Observed false (one_plan rs) (rose tt (sort keys part options) ts)
  sort_dropped (more r no_roses) (more (rose n o us) no_roses) v h =
      let s = schema_by o (schemas us) in
      relates_drop Bool SameColumns InOrderOf (sort keys part options) false false r (rose n o us) v h.0.schema (λ c f g k has ag. by c f g has.0 ag) h.0
    where
      by : (c : Contents) (f g : Frame) → HasSchema g (schema_by o (schemas us)) → Reordering f g → (x : Frame) × Step c (sort keys part options) (g ∷ []) x × Reordering f x
      by c f g has ag =
          let cmp = rows_cmp (key_cells keys g) options.descending options.nulls_last in
          let total = rows_total g.height (key_cells keys g) options.descending options.nulls_last (keys_are g (schema_by o (schemas us)) keys has (keys_good keys (schema_by o (schemas us)) v.0.1).typed) in
          let rows = sorted_exists options.maintain_order cmp g.height total in
          (rows_at rows.0 g, (rows.0, rows.1, refl), subst (λ (x : Frame). Reordering x (rows_at rows.0 g)) (sym ag.is) (reordered_rows g rows.0 ag.rows (IsPermutation-trans rows.0 (range_with_len 0 g.height) ag.rows (IsPermutation-sym (range_with_len 0 g.height) rows.0 rows.1.permutes) ag.permutes)))
  sort_dropped no_roses ts v h = at ts v h
    where
      at : (ts : Plans) → IsValid (rose tt (sort keys part options) ts) → AllObserved (views false ts) no_roses ts → Observed false (one_plan no_roses) (rose tt (sort keys part options) ts)
      at no_roses v h = cc
      at (more p no_roses) v h = absurd h
      at (more p (more q rest)) v h = absurd h
  sort_dropped rs no_roses v h = cc
  sort_dropped (more r rs) (more (rose n o us) (more (rose m o' us') rest)) v h = cc
  sort_dropped (more r (more r' rs)) (more (rose n o us) no_roses) v h = absurd h.1

-- Selections and additions

select_step : (c : Contents) (es : List Named) (schema : Columns) (options : ProjectionOptions) (g : Frame) (s : Columns) (ps : List ℕ) (f : Frame) → HasSchema g s → all_elementwise es ≡ true → IsPermutation (range_with_len 0 g.height) ps → HasSchema (selected es g) (schema_by (select es schema options) (s ∷ [])) → f ≡ selected es (rows_at ps g) → Reordering f (selected es g)
select_step c es schema options g s ps f has w p fits st = at (all_scalar es) refl
  where
    level : IsLevel g
    level = level_frame g s has

    at : (b : Bool) → all_scalar es ≡ b → Reordering f (selected es g)
    at true e =
        let same : selected es (rows_at ps g) ≡ selected es g =
        ap (λ (b : Bool). made (cond b 1 (length ps)) [] es (rows_at ps g)) e
        ∙ ap (λ (cs : List Column). record { height = 1; columns = with_columns [] cs }) (scalar_rows g ps (permuted_below g.height ps p) level 1 es e w)
        ∙ ap (λ (b : Bool). made (cond b 1 g.height) [] es g) (sym e) in
        subst (λ (x : Frame). Reordering x (selected es g)) (sym (st ∙ same)) (itself (selected es g) (schema_by (select es schema options) (s ∷ [])) fits)
    at false e =
        let here : selected es g ≡ made g.height [] es g = ap (λ (b : Bool). made (cond b 1 g.height) [] es g) e in
        let there : selected es (rows_at ps g) ≡ rows_at ps (made g.height [] es g) = ap (λ (b : Bool). made (cond b 1 (length ps)) [] es (rows_at ps g)) e ∙ alone_rows g ps (permuted_below g.height ps p) level es w in
        record {
          rows = ps;
          permutes = subst (λ (x : Frame). IsPermutation (range_with_len 0 x.height) ps) (sym here) p;
          is = st ∙ there ∙ ap (rows_at ps) (sym here);
        }

module _ (es : List Named) (stored : Columns) (options : ProjectionOptions) where
  select_loose : (b : Bool) → all_elementwise es ≡ b → (rs ts : Plans) → IsValid (rose tt (select es stored options) ts) → AllObserved (views (not b) ts) rs ts → Observed false (rose tt (select es stored options) rs) (rose tt (select es stored options) ts)
  select_loose false e rs ts v h = same_node false (select es stored options) rs ts v h
  select_loose true e rs (more (rose n o us) no_roses) v h =
      let s = schema_by o (schemas us) in
      loose_one false (select es stored options) (select es stored options) rs (rose n o us) s refl v h v.0 refl (λ c k. k)
      (λ c g ps f has p st. (selected es g, refl, select_step c es stored options g s ps f has e p (selected_has g s es has (made_good [] es stored s v.0.1).typed) st))
  select_loose true e rs no_roses v h = cc
  select_loose true e rs (more (rose n o us) (more (rose m o' us') rest)) v h = cc

  hstack_loose : (b : Bool) → all_elementwise es ≡ b → (rs ts : Plans) → IsValid (rose tt (hstack es stored options) ts) → AllObserved (views (not b) ts) rs ts → Observed false (rose tt (hstack es stored options) rs) (rose tt (hstack es stored options) ts)
  hstack_loose false e rs ts v h = same_node false (hstack es stored options) rs ts v h
  hstack_loose true e rs (more (rose n o us) no_roses) v h =
      let s = schema_by o (schemas us) in
      loose_one false (hstack es stored options) (hstack es stored options) rs (rose n o us) s refl v h v.0 refl (λ c k. k)
      (λ c g ps f has p st. (made g.height g.columns es g, refl, record { rows = ps; permutes = p; is = st ∙ added_rows g ps (permuted_below g.height ps p) (level_frame g s has) es e }))
  hstack_loose true e rs no_roses v h = cc
  hstack_loose true e rs (more (rose n o us) (more (rose m o' us') rest)) v h = cc

-- Distinct rows

told_rows : (subset : Option (List Name)) (g : Frame) (ps : List ℕ) → told_columns subset (rows_at ps g) ≡ map (rows_cell ps) (told_columns subset g)
told_rows subset g ps = ap (λ (l : List Name). map (λ (a : Name). many (column_or (rows_at ps g) a)) (names_or subset l)) (names_same g.columns) ∙ each (names_or subset (column_names g.columns))
  where
    names_same : (cs : List Column) → column_names (picked_columns ps cs) ≡ column_names cs
    names_same [] = refl
    names_same (c ∷ cs) = ap (λ (l : List Name). c.name ∷ l) (names_same cs)

    each : (l : List Name) → map (λ (a : Name). many (column_or (rows_at ps g) a)) l ≡ map (rows_cell ps) (map (λ (a : Name). many (column_or g a)) l)
    each [] = refl
    each (a ∷ l) = ap₂ (λ (c : Cell) (cs : List Cell). c ∷ cs) (ap many (column_rows g ps a)) (each l)

module _ (options : DistinctOptionsIR) where
  abbrev marked : Bool → DistinctOptionsIR
  marked b = record options { maintain_order = b }

  distinct_good : (b : Bool) (ss : List Columns) → AllHold (checks (distinct options) ss) → AllHold (checks (distinct (record options { maintain_order = b })) ss)
  unfolding is_built_distinct
  distinct_good b [] good = cc
  distinct_good b (s ∷ []) good = good
  distinct_good b (s ∷ t ∷ ss) good = cc

  -- the rows that are kept of an input in another order
  distinct_kept : (g : Frame) (ps rows : List ℕ) → distinct_demands options.keep_strategy false ≡ false → IsPermutation (range_with_len 0 g.height) ps → AreKept false options.keep_strategy (are_alike (told_columns options.subset (rows_at ps g))) (length ps) rows → AreKept false options.keep_strategy (are_alike (told_columns options.subset g)) g.height (map (nth ps) rows)
  distinct_kept g ps rows f p k =
      let same = are_alike (told_columns options.subset g) in
      let cells = map (rows_cell ps) (told_columns options.subset g) in
      kept_rows same (are_alike cells) (alike_equivalence (told_columns options.subset g)) g.height ps p (λ i j lt m. alike_rows ps (told_columns options.subset g) i j lt m) options.keep_strategy rows f
      (subst (λ (cs : List Cell). AreKept false options.keep_strategy (are_alike cs) (length ps) rows) (told_rows options.subset g ps) k)

  -- rows that are kept in any order, where their order isn't observed
  distinct_loose : (d : Bool) (g : Frame) (rows : List ℕ) → (d && options.maintain_order) ≡ false → AreKept false options.keep_strategy (are_alike (told_columns options.subset g)) g.height rows → (c : Contents) → (h : Frame) × Step c (distinct options) (g ∷ []) h × InOrderOf d (rows_at rows g) h
  distinct_loose true g rows e k c = (rows_at rows g, (rows, subst (λ (b : Bool). AreKept b options.keep_strategy (are_alike (told_columns options.subset g)) g.height rows) (sym e) k, refl), refl)
  distinct_loose false g rows e k c =
      let same = are_alike (told_columns options.subset g) in
      let x = kept_in_order options.maintain_order options.keep_strategy same (alike_equivalence (told_columns options.subset g)) g.height rows k in
      (rows_at x.sorted g, (x.sorted, x.kept, refl), reordered_rows g x.sorted rows x.permutes)

  distinct_free : (d b : Bool) → (d && options.maintain_order) ≡ b → (keep : Bool) → distinct_demands options.keep_strategy b ≡ keep → (rs ts : Plans) → IsValid (rose tt (distinct options) ts) → AllObserved (views keep ts) rs ts → Observed d (rose tt (distinct (record options { maintain_order = b })) rs) (rose tt (distinct options) ts)
  distinct_free true b e true f rs ts v h =
      equal_node true (distinct (record options { maintain_order = b })) (distinct options) rs ts v h (distinct_good b (schemas ts)) (same_named (schemas ts)) (λ c k. k) (λ c fs x st. by c fs x st)
    where
      same_named : (ss : List Columns) → schema_by (distinct (record options { maintain_order = b })) ss ≡ schema_by (distinct options) ss
      same_named ss = refl

      by : (c : Contents) (fs : List Frame) (x : Frame) → Step c (distinct (record options { maintain_order = b })) fs x → Step c (distinct options) fs x
      by c (g ∷ []) x st = (st.0, subst (λ (m : Bool). AreKept m options.keep_strategy (are_alike (told_columns options.subset g)) g.height st.0) (sym e) st.1, st.2)
      by c [] x st = absurd st
      by c (g ∷ g' ∷ gs) x st = absurd st
  distinct_free false b e true f rs (more (rose n o us) no_roses) v h =
      let s = schema_by o (schemas us) in
      relates_node Bool SameColumns InOrderOf (distinct (record options { maintain_order = b })) (distinct options) (true ∷ []) false rs (more (rose n o us) no_roses) v h (λ k.
      let q = same_columns (true ∷ []) (schemas rs) (s ∷ []) k in
      record {
        good = subst (λ (ss : List Columns). AllHold (checks (distinct (record options { maintain_order = b })) ss)) (sym q) (distinct_good b (s ∷ []) v.0);
        schema = ap first_schema q;
        fits = λ c l. l;
        step = λ c fs gs x l hr has ag st. by c fs gs x ag st;
      })
    where
      by : (c : Contents) (fs gs : List Frame) (x : Frame) → FramesRelated Bool SameColumns InOrderOf (true ∷ []) fs gs → Step c (distinct (record options { maintain_order = b })) fs x → (y : Frame) × Step c (distinct options) gs y × Reordering x y
      by c (f0 ∷ []) (g0 ∷ []) x ag st =
          let st' : Step c (distinct (record options { maintain_order = b })) (g0 ∷ []) x = subst (λ (y : Frame). Step c (distinct (record options { maintain_order = b })) (y ∷ []) x) ag.0 st in
          let r = distinct_loose false g0 st'.0 refl (subst (λ (m : Bool). AreKept m options.keep_strategy (are_alike (told_columns options.subset g0)) g0.height st'.0) (sym e) st'.1) c in
          (r.0, r.1, subst (λ (y : Frame). Reordering y r.0) (sym st'.2) r.2)
      by c [] gs x ag st = absurd ag
      by c (f0 ∷ fs) [] x ag st = absurd ag
      by c (f0 ∷ f1 ∷ fs) (g0 ∷ gs) x ag st = absurd ag.1
      by c (f0 ∷ []) (g0 ∷ g1 ∷ gs) x ag st = absurd ag.1
  distinct_free false b e true f rs no_roses v h = cc
  distinct_free false b e true f rs (more (rose n o us) (more (rose m o' us') rest)) v h = cc
  distinct_free d true e false f rs ts v h = absurd (never options.keep_strategy f)
    where
      never : (keep : UniqueKeepStrategy) → distinct_demands keep true ≡ false → ⊥
      never keeps.First e = cc
      never keeps.Last e = cc
      never keeps.Any e = cc
      never keeps.None e = cc
  distinct_free d false e false f rs (more (rose n o us) no_roses) v h =
      let s = schema_by o (schemas us) in
      loose_one d (distinct (record options { maintain_order = false })) (distinct options) rs (rose n o us) s refl v h (distinct_good false (s ∷ []) v.0) refl (λ c k. k)
      (λ c g ps x has p st.
      let rows = map (nth ps) st.0 in
      let r = distinct_loose d g rows e (distinct_kept g ps st.0 f p st.1) c in
      (r.0, r.1, subst (λ (y : Frame). InOrderOf d y r.0) (sym (st.2 ∙ rows_twice ps st.0 g st.1.below)) r.2))
  distinct_free d false e false f rs no_roses v h = cc
  distinct_free d false e false f rs (more (rose n o us) (more (rose m o' us') rest)) v h = cc

-- Unions

module _ (options : UnionOptions) where
  union_marked : (b : Bool) (ss : List Columns) → AllHold (checks (union options) ss) → AllHold (checks (union (record options { maintain_order = b })) ss)
  unfolding is_built_union
  union_marked b ss good = good

  union_first : (p : Plan) (ts : Plans) → AllHold (checks (union options) (schemas (more p ts))) → (t : Columns) × (ss : List Columns) × (schemas (more p ts) ≡ t ∷ ss) × AllAre t (t ∷ ss)
  union_first (rose n o us) ts good = (schema_by o (schemas us), schemas ts, refl, union_inputs options (schemas (more (rose n o us) ts)) good)

  union_node : (d : Bool) (rs ts : Plans) → IsValid (rose tt (union options) ts) → AllObserved (views d ts) rs ts → Observed d (rose tt (union (record options { maintain_order = d })) rs) (rose tt (union options) ts)
  union_node true rs ts v h =
      equal_node true (union (record options { maintain_order = true })) (union options) rs ts v h (union_marked true (schemas ts)) refl (λ c k. k)
      (λ c fs f st. (st.0, record { permutes = st.1.permutes; in_order = λ e. st.1.in_order refl }, st.2))
  union_node false rs no_roses v h = absurd (never_built options [] refl v.0.0)
  union_node false rs (more p ts) v h =
      let o = union (record options { maintain_order = false }) in
      let parts = union_first p ts v.0 in
      relates_node Bool SameColumns InOrderOf o (union options) (views false (more p ts)) false rs (more p ts) v h (λ k.
      let q = same_columns (views false (more p ts)) (schemas rs) (schemas (more p ts)) k in
      record {
        good = subst (λ (ss : List Columns). AllHold (checks o ss)) (sym q) (union_marked false (schemas (more p ts)) v.0);
        schema = ap first_schema q;
        fits = λ c l. l;
        step = λ c fs gs f l hr has ag st. by c fs gs f (turned_rows parts.0 parts.0 parts.1 fs gs parts.3 (subst (λ (ss : List Columns). HaveSchemas gs ss) parts.2 has) (loose_frames p ts fs gs ag)) st;
      })
    where
      by : (c : Contents) (fs gs : List Frame) (f : Frame) → Reordering (in_turn fs) (in_turn gs) → Step c (union (record options { maintain_order = false })) fs f → (g : Frame) × Step c (union options) gs g × Reordering f g
      by c fs gs f r st =
          let h = (in_turn gs).height in
          let all = range_with_len 0 h in
          let long : (in_turn fs).height ≡ length r.rows = ap (λ (x : Frame). x.height) r.is in
          let turned : IsPermutation (range_with_len 0 (length r.rows)) st.0 = subst (λ (n : ℕ). IsPermutation (range_with_len 0 n) st.0) long st.1.permutes in
          let p = permuted_twice h r.rows st.0 r.permutes turned in
          let is : f ≡ rows_at (map (nth r.rows) st.0) (in_turn gs) = st.2 ∙ ap (rows_at st.0) r.is ∙ rows_twice r.rows st.0 (in_turn gs) (permuted_below (length r.rows) st.0 turned) in
          (rows_at all (in_turn gs), (all, record { permutes = IsPermutation-refl all; in_order = λ e. refl }, refl), subst (λ (x : Frame). Reordering x (rows_at all (in_turn gs))) (sym is) (reordered_rows (in_turn gs) all (map (nth r.rows) st.0) p))

-- Groupings

-- Groupings

group_kept : (d : Bool) (keys aggs : List Named) (stored : Columns) (stable : Bool) (options : GroupbyOptions) (b : Bool) → (stable || not (all_elementwise keys && all_summaries aggs)) ≡ b → (rs ts : Plans) → IsValid (rose tt (group_by keys aggs stored stable options) ts) → AllObserved (views b ts) rs ts → Observed d (rose tt (group_by keys aggs stored stable options) rs) (rose tt (group_by keys aggs stored stable options) ts)
group_kept d keys aggs stored stable options true e rs ts v h = same_node d (group_by keys aggs stored stable options) rs ts v h
group_kept d keys aggs stored stable options false e rs (more (rose n o us) no_roses) v h =
    let q = neither_pair stable (all_elementwise keys) (all_summaries aggs) e in
    let op = group_by keys aggs stored stable options in
    let s = schema_by o (schemas us) in
    weaker d (rose tt op rs) (rose tt op (more (rose n o us) no_roses)) v
    (loose_one true op op rs (rose n o us) s refl v h v.0 refl (λ c k. k)
    (λ c g ps f has p st.
    let good : AllHold (checks (group_by keys aggs stored false options) (s ∷ [])) = v.0 in
    let k = group_rows keys aggs stored options s good q.1 q.2 g ps st.0 has p (subst (λ (m : Bool). AreKept m keeps.First (are_alike (key_cells keys (rows_at ps g))) (length ps) st.0) q.0 st.1) in
    (grouped keys aggs k.0 g, (k.0, subst (λ (m : Bool). AreKept m keeps.First (are_alike (key_cells keys g)) g.height k.0) (sym q.0) k.1, refl), st.2 ∙ k.2)))
group_kept d keys aggs stored stable options false e rs no_roses v h = cc
group_kept d keys aggs stored stable options false e rs (more (rose n o us) (more (rose m o' us') rest)) v h = cc

-- Each node, and plans

node_observed : (d : Bool) (op : Op) (rs ts : Plans) → IsValid (rose tt op ts) → AllObserved (views (demands d op) ts) rs ts → Observed d (with_order d op rs) (rose tt op ts)
node_observed d (slice offset len) rs ts v h = same_node d (slice offset len) rs ts v h
node_observed d (filter predicate) rs ts v h = same_node d (filter predicate) rs ts v h
node_observed d (scan sources info hive predicate output kind options) rs ts v h = same_node d (scan sources info hive predicate output kind options) rs ts v h
node_observed d (frame_scan df schema output) rs ts v h = same_node d (frame_scan df schema output) rs ts v h
node_observed d (simple_projection columns) rs ts v h = same_node d (simple_projection columns) rs ts v h
node_observed true (select es schema options) rs ts v h = same_node true (select es schema options) rs ts v h
node_observed false (select es schema options) rs ts v h = select_loose es schema options (all_elementwise es) refl rs ts v h
node_observed true (hstack es schema options) rs ts v h = same_node true (hstack es schema options) rs ts v h
node_observed false (hstack es schema options) rs ts v h = hstack_loose es schema options (all_elementwise es) refl rs ts v h
node_observed true (sort keys part options) rs ts v h = sort_kept keys part options (options.maintain_order || not (all_elementwise keys)) refl rs ts v h
node_observed false (sort keys part options) rs ts v h = sort_dropped keys part options rs ts v h
node_observed d (group_by keys aggs schema ordered options) rs ts v h = group_kept d keys aggs schema ordered options (ordered || not (all_elementwise keys && all_summaries aggs)) refl rs ts v h
node_observed d (join left_on right_on schema told) rs ts v h = same_node d (join left_on right_on schema told) rs ts v h
node_observed d (distinct options) rs ts v h = distinct_free options d (d && options.maintain_order) refl (distinct_demands options.keep_strategy (d && options.maintain_order)) refl rs ts v h
node_observed d (map_function function) rs ts v h = same_node d (map_function function) rs ts v h
node_observed d (sink payload) rs ts v h = same_node d (sink payload) rs ts v h
node_observed d (union options) rs ts v h = union_node options d rs ts v h
node_observed d (hconcat schema options) rs ts v h = same_node d (hconcat schema options) rs ts v h
node_observed d (cache id hits) rs ts v h = same_node d (cache id hits) rs ts v h
node_observed d invalid rs ts v h = same_node d invalid rs ts v h

mutual
  pub ordered_observed : (d : Bool) (p : Plan) → IsValid p → Observed d (ordered d p) p
  ordered_observed d (rose n op ts) v = node_observed d op (ordered_in (demands d op) ts) ts v (all_observed (demands d op) ts v.1)

  pub all_observed : (d : Bool) (ts : Plans) → AllValid ts → AllObserved (views d ts) (ordered_in d ts) ts
  all_observed d no_roses v = tt
  all_observed d (more (rose n op us) no_roses) v = (ordered_observed d (rose n op us) (v.0, v.1), tt)
  all_observed d (more (rose n op us) (more q rest)) v = (ordered_observed true (rose n op us) (v.0, v.1), all_observed d (more q rest) v.2)

-- the plan without what nothing observes refines the plan
pub ordered_refines : (p : Plan) → IsValid p → Refines (ordered true p) p
ordered_refines p v = relates_refines (ordered true p) p (ordered_observed true p v)

-- and below an absent demand it reorders it
pub ordered_reorders : (p : Plan) → IsValid p → Reorders (ordered false p) p
ordered_reorders p v = ordered_observed false p v
