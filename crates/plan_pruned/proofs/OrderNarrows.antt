-- Sorts, distinct rows and sinks over an input that narrows at what they ask.
use Rattle.std.proofs.Common.{◌≡◌, ℕ, ℤ, ◌&&◌, Bool, true, false, List, [], ◌∷◌, map, Option, Some, None, replicate, unwrap_or, refl, sym, ap, ap₂, ◌∙◌, subst, is_some, ⊎_elim}
use Rattle.std.proofs.Math.Path.{fun_ext}
use Rattle.std.specs.List.{AllByRecursion}
use Rattle.std.proofs.lemmas.Bool.{and_parts}
use Rattle.plan_options.specs.declared.distinct.DistinctOptionsIR.{DistinctOptionsIR}
use Rattle.plan_options.specs.declared.sink.SinkType.{SinkType}
use Rattle.plan_options.specs.declared.sort.SortMultipleOptions.{SortMultipleOptions}
use Rattle.plan_core.specs.declared.error.PolarsError.TheVariants.{SchemaFieldNotFound}
use Rattle.plan_core.specs.Columns.{Columns, names_of, type_of}
use Rattle.plan_core.specs.Names.{has, with_names}
use Rattle.plan_expr.specs.Exprs.{Named}
use Rattle.plan_ir.specs.Plans.{sort, distinct, sink}
use Rattle.plan_expr.specs.Leaves.{Name}
use Rattle.plan_frame.specs.Exprs.{expr_type}
use Rattle.plan_meaning.specs.Checks.{is_known, is_plain_type}
use Rattle.plan_meaning.specs.Typing.{checks, subset_checks, AllHold}
use Rattle.plan_frame.specs.Frames.{names_or, Frame, HasSchema, column, column_names, column_or, row, rows_at, Agree}
use Rattle.plan_frame.specs.Values.{Value, null, same_value}
use Rattle.plan_frame.specs.Meaning.{Cell, many, are_alike}
use Rattle.plan_frame.specs.Orders.{AreKept, AreSorted, key_cells, rows_cmp, told_columns}
use Rattle.plan_meaning.specs.Contents.{Contents}
use Rattle.plan_meaning.specs.Steps.{Step}
use Rattle.plan_meaning.specs.Relating.{Asked, all, names, cached, Holding, NarrowColumns}
use Rattle.plan_frame.specs.ExprLists.{all_leaves}
use Rattle.plan_meaning.specs.Asked.{with_more}
use Rattle.plan_frame.proofs.NameSets.{has_cons, has_first, has_later, keeps_names, adds_names, some-type_of}
use Rattle.plan_frame.proofs.FrameLemmas.{agree_fewer, agree_rows}
use Rattle.plan_frame.proofs.Depends.{type_within}
use Rattle.plan_meaning.proofs.CheckParts.{pass_each, pass_names, keys_good, good_keys}
use Rattle.plan_pruned.proofs.NarrowLemmas.{Local, holding_fewer, holding_same, one_step, same_one, same_cached}
use Rattle.plan_frame.proofs.BesideLemmas.{names-are}
use Rattle.plan_pruned.proofs.MadeNarrows.{SameLeaves, front_leaves, back_leaves, same_known}
pub use Rattle.plan_pruned.proofs.SideLemmas.{same_keys}

-- sinks

sink_names : (payload : SinkType) (wanted : List Name) (r s : Columns) → Holding wanted r s → Local (sink payload) (sink payload) (names wanted ∷ []) (names wanted) (r ∷ []) (s ∷ [])
sink_names payload wanted r s h = record {
  good = tt;
  schema = h;
  fits = λ c k. k;
  step = λ c fs gs f k hr has ag st. one_step c (sink payload) (sink payload) (names wanted) (names wanted) r s
      (λ f0 g0 f hr hs ag st. (g0, refl, subst (λ (x : Frame). Agree wanted x g0) (sym st) ag)) fs gs f hr has ag st;
}

-- a sink over an input that narrows at what the sink is asked narrows at that
pub local_sink : (payload : SinkType) (a : Asked) (r s : Columns) → NarrowColumns a r s → Local (sink payload) (sink payload) (a ∷ []) a (r ∷ []) (s ∷ [])
local_sink payload all r s h = subst (λ (x : Columns). Local (sink payload) (sink payload) (all ∷ []) all (x ∷ []) (s ∷ [])) (sym h) (same_one (sink payload) s tt)
local_sink payload (names wanted) r s h = sink_names payload wanted r s h
local_sink payload cached r s h = subst (λ (x : Columns). Local (sink payload) (sink payload) (cached ∷ []) cached (x ∷ []) (s ∷ [])) (sym h) (same_cached (sink payload) s tt)

-- sorts

same_plain : (es : List Named) (r s : Columns) → SameLeaves es r s → AllByRecursion (λ (e : Named). is_plain_type (expr_type e.expr s) ≡ true) es → AllByRecursion (λ (e : Named). is_plain_type (expr_type e.expr r) ≡ true) es
same_plain [] r s h k = tt
same_plain (e ∷ es) r s h k = (ap is_plain_type (type_within e.expr r s (front_leaves e es r s h)) ∙ k.0, same_plain es r s (back_leaves e es r s h) k.1)

module _ (keys : List Named) (part : Option (ℤ × ℕ)) (options : SortMultipleOptions) (wanted : List Name) where
  abbrev read_all : List Name
  read_all = with_names wanted (all_leaves keys)

  sort_agrees : (c : Contents) (f0 g0 f : Frame) → Agree (with_names wanted (all_leaves keys)) f0 g0 → Step c (sort keys part options) (f0 ∷ []) f → (g : Frame) × Step c (sort keys part options) (g0 ∷ []) g × Agree wanted f g
  sort_agrees c f0 g0 f ag st =
      let cells = same_keys keys f0 g0 (agree_fewer (all_leaves keys) read_all f0 g0 (λ a i. adds_names wanted (all_leaves keys) a i) ag) in
      let ds = options.descending in
      let ns = options.nulls_last in
      let sorted : AreSorted options.maintain_order (rows_cmp (key_cells keys g0) ds ns) g0.height st.0 =
      subst (λ (cs : List Cell). AreSorted options.maintain_order (rows_cmp cs ds ns) g0.height st.0) cells (subst (λ (n : ℕ). AreSorted options.maintain_order (rows_cmp (key_cells keys f0) ds ns) n st.0) ag.height st.1) in
      (rows_at st.0 g0, (st.0, sorted, refl), subst (λ (x : Frame). Agree wanted x (rows_at st.0 g0)) (sym st.2) (agree_rows (λ a. a) wanted st.0 f0 g0 (agree_fewer wanted read_all f0 g0 (λ a i. keeps_names wanted (all_leaves keys) a i) ag)))

  sort_names : (r s : Columns) → AllHold (checks (sort keys part options) (s ∷ [])) → Holding (with_names wanted (all_leaves keys)) r s → Local (sort keys part options) (sort keys part options) (names (with_names wanted (all_leaves keys)) ∷ []) (names wanted) (r ∷ []) (s ∷ [])
  sort_names r s good h =
      let same : SameLeaves keys r s = λ b i. holding_same read_all r s h b (adds_names wanted (all_leaves keys) b i) in
      let k = keys_good keys s good.1 in
      record {
        good = (good.0, good_keys keys r (record { formed = k.formed; known = same_known keys r s same k.known; typed = same_plain keys r s same k.typed; named = k.named }));
        schema = holding_fewer wanted read_all r s (λ a i. keeps_names wanted (all_leaves keys) a i) h;
        fits = λ c k. k;
        step = λ c fs gs f k hr has ag st. one_step c (sort keys part options) (sort keys part options) (names read_all) (names wanted) r s (λ f0 g0 f hr hs ag st. sort_agrees c f0 g0 f ag st) fs gs f hr has ag st;
      }

-- a sort over an input that narrows at what it asks narrows at what it is asked
pub local_sort : (keys : List Named) (part : Option (ℤ × ℕ)) (options : SortMultipleOptions) (a : Asked) (r s : Columns) → AllHold (checks (sort keys part options) (s ∷ [])) → NarrowColumns (with_more (all_leaves keys) a) r s → Local (sort keys part options) (sort keys part options) (with_more (all_leaves keys) a ∷ []) a (r ∷ []) (s ∷ [])
local_sort keys part options all r s good h = subst (λ (x : Columns). Local (sort keys part options) (sort keys part options) (all ∷ []) all (x ∷ []) (s ∷ [])) (sym h) (same_one (sort keys part options) s good)
local_sort keys part options (names wanted) r s good h = sort_names keys part options wanted r s good h
local_sort keys part options cached r s good h = subst (λ (x : Columns). Local (sort keys part options) (sort keys part options) (cached ∷ []) cached (x ∷ []) (s ∷ [])) (sym h) (same_cached (sort keys part options) s good)

-- distinct rows

bool_same : (a b : Bool) → (a ≡ true → b ≡ true) → (b ≡ true → a ≡ true) → a ≡ b
bool_same true true f g = refl
bool_same false false f g = refl
bool_same true false f g = sym (f refl)
bool_same false true f g = g refl

and_both : (a b : Bool) → a ≡ true → b ≡ true → (a && b) ≡ true
and_both true b e f = f
and_both false b e f = cc

-- rows are alike in columns just where they have the same value in each
abbrev columns_of : List Name → Frame → List Cell
columns_of l f = map (λ (a : Name). many (column_or f a)) l

alike_each : (l : List Name) (f : Frame) (i j : ℕ) → are_alike (columns_of l f) i j ≡ true → (a : Name) → has l a ≡ true → same_value (row (column_or f a) i) (row (column_or f a) j) ≡ true
alike_each [] f i j e a k = cc
alike_each (b ∷ l) f i j e a k =
    let p = and_parts (same_value (row (column_or f b) i) (row (column_or f b) j)) (are_alike (columns_of l f) i j) e in
    ⊎_elim (λ (q : a ≡ b). ap (λ (x : Name). same_value (row (column_or f x) i) (row (column_or f x) j)) q ∙ p.0) (λ (q : has l a ≡ true). alike_each l f i j p.1 a q) (has_cons b l a k)

each_alike : (l : List Name) (f : Frame) (i j : ℕ) → ((a : Name) → has l a ≡ true → same_value (row (column_or f a) i) (row (column_or f a) j) ≡ true) → are_alike (columns_of l f) i j ≡ true
each_alike [] f i j h = refl
each_alike (b ∷ l) f i j h = and_both (same_value (row (column_or f b) i) (row (column_or f b) j)) (are_alike (columns_of l f) i j) (h b (has_first b l)) (each_alike l f i j (λ a k. h a (has_later b l a k)))

same_column : (f g : Frame) (a : Name) → f.height ≡ g.height → column f a ≡ column g a → column_or f a ≡ column_or g a
same_column f g a h e = ap₂ (λ (o : Option (List Value)) (n : ℕ). unwrap_or o (replicate n null)) e h

alike_from : (l m : List Name) (f g : Frame) (i j : ℕ) → ((a : Name) → has m a ≡ true → has l a ≡ true) → ((a : Name) → has m a ≡ true → column_or f a ≡ column_or g a) → are_alike (columns_of l f) i j ≡ true → are_alike (columns_of m g) i j ≡ true
alike_from l m f g i j sub same e = each_alike m g i j (λ a k. ap (λ (vs : List Value). same_value (row vs i) (row vs j)) (sym (same a k)) ∙ alike_each l f i j e a (sub a k))

alike_same : (l m : List Name) (f g : Frame) → ((a : Name) → has l a ≡ has m a) → ((a : Name) → has m a ≡ true → column_or f a ≡ column_or g a) → are_alike (columns_of l f) ≡ are_alike (columns_of m g)
alike_same l m f g sets same = fun_ext (λ (i : ℕ). fun_ext (λ (j : ℕ).
    bool_same (are_alike (columns_of l f) i j) (are_alike (columns_of m g) i j)
    (alike_from l m f g i j (λ a k. sets a ∙ k) same)
    (alike_from m l g f i j (λ a k. sym (sets a) ∙ k) (λ a k. sym (same a (sym (sets a) ∙ k))))))

module _ (options : DistinctOptionsIR) (wanted : List Name) (r s : Columns) (good : AllHold (checks (distinct options) (s ∷ []))) (h : Holding (with_names wanted (names_or options.subset (names_of s))) r s) where
  abbrev told : List Name
  told = names_or options.subset (names_of s)

  abbrev read_names : List Name
  read_names = with_names wanted told

  -- the columns in which rows are told apart are those of the input
  abbrev own_names : Frame → List Name
  own_names f = names_or options.subset (column_names f.columns)

  told_in : (a : Name) → has told a ≡ true → has read_names a ≡ true
  told_in a i = adds_names wanted told a i

  left_known : (a : Name) → has told a ≡ true → is_some (type_of r a) ≡ true
  left_known a i = let k = h.held a (told_in a i) in ap is_some k.1

  same_sets : (o : Option (List Name)) → ((a : Name) → has (names_or o (names_of s)) a ≡ true → is_some (type_of r a) ≡ true) → (a : Name) → has (names_or o (names_of r)) a ≡ has (names_or o (names_of s)) a
  same_sets (Some l) known a = refl
  same_sets None known a = bool_same (has (names_of r) a) (has (names_of s) a)
      (λ i. sym (some-type_of s a) ∙ h.within a (some-type_of r a ∙ i))
      (λ i. sym (some-type_of r a) ∙ known a i)

  left_subset : (o : Option (List Name)) → ((a : Name) → has (names_or o (names_of s)) a ≡ true → is_some (type_of r a) ≡ true) → AllHold (subset_checks o r)
  unfolding subset_checks
  left_subset None known = tt
  left_subset (Some l) known = pass_each SchemaFieldNotFound 1 (is_known r) l (pass_names (λ (a : Name). is_known r a ≡ true) l known)

  same_rows : (f0 g0 : Frame) → HasSchema f0 r → HasSchema g0 s → Agree (with_names wanted (names_or options.subset (names_of s))) f0 g0 → are_alike (told_columns options.subset f0) ≡ are_alike (told_columns options.subset g0)
  same_rows f0 g0 hr hs ag =
      let left : own_names f0 ≡ names_or options.subset (names_of r) = ap (names_or options.subset) (names-are f0.height f0.columns r hr) in
      let right : own_names g0 ≡ told = ap (names_or options.subset) (names-are g0.height g0.columns s hs) in
      ap (λ (l : List Name). are_alike (columns_of l f0)) left
      ∙ alike_same (names_or options.subset (names_of r)) told f0 g0 (same_sets options.subset left_known) (λ a i. same_column f0 g0 a ag.height (ag.same a (told_in a i)))
      ∙ ap (λ (l : List Name). are_alike (columns_of l g0)) (sym right)

  distinct_agrees : (c : Contents) (f0 g0 f : Frame) → HasSchema f0 r → HasSchema g0 s → Agree (with_names wanted (names_or options.subset (names_of s))) f0 g0 → Step c (distinct options) (f0 ∷ []) f → (g : Frame) × Step c (distinct options) (g0 ∷ []) g × Agree wanted f g
  distinct_agrees c f0 g0 f hr hs ag st =
      let stable = options.maintain_order in
      let keep = options.keep_strategy in
      let kept : AreKept stable keep (are_alike (told_columns options.subset g0)) g0.height st.0 =
      subst (λ (same : ℕ → ℕ → Bool). AreKept stable keep same g0.height st.0) (same_rows f0 g0 hr hs ag) (subst (λ (n : ℕ). AreKept stable keep (are_alike (told_columns options.subset f0)) n st.0) ag.height st.1) in
      (rows_at st.0 g0, (st.0, kept, refl), subst (λ (x : Frame). Agree wanted x (rows_at st.0 g0)) (sym st.2) (agree_rows (λ a. a) wanted st.0 f0 g0 (agree_fewer wanted read_names f0 g0 (λ a i. keeps_names wanted told a i) ag)))

  distinct_names : Local (distinct options) (distinct options) (names (with_names wanted (names_or options.subset (names_of s))) ∷ []) (names wanted) (r ∷ []) (s ∷ [])
  distinct_names = record {
    good = (good.0, left_subset options.subset left_known);
    schema = holding_fewer wanted read_names r s (λ a i. keeps_names wanted told a i) h;
    fits = λ c k. k;
    step = λ c fs gs f k hr has ag st. one_step c (distinct options) (distinct options) (names read_names) (names wanted) r s (λ f0 g0 f hr hs ag st. distinct_agrees c f0 g0 f hr hs ag st) fs gs f hr has ag st;
  }

-- distinct rows of an input that narrows at what they ask narrow at what they are asked
pub local_distinct : (options : DistinctOptionsIR) (a : Asked) (r s : Columns) → AllHold (checks (distinct options) (s ∷ [])) → NarrowColumns (with_more (names_or options.subset (names_of s)) a) r s → Local (distinct options) (distinct options) (with_more (names_or options.subset (names_of s)) a ∷ []) a (r ∷ []) (s ∷ [])
local_distinct options all r s good h = subst (λ (x : Columns). Local (distinct options) (distinct options) (all ∷ []) all (x ∷ []) (s ∷ [])) (sym h) (same_one (distinct options) s good)
local_distinct options (names wanted) r s good h = distinct_names options wanted r s good h
local_distinct options cached r s good h = subst (λ (x : Columns). Local (distinct options) (distinct options) (cached ∷ []) cached (x ∷ []) (s ∷ [])) (sym h) (same_cached (distinct options) s good)
