-- Groupings of rows in another order: the same groups, each with the same values where its aggregates ignore the order.
use Rattle.std.proofs.Common.{◌≡◌, ℕ, zero, suc, ◌<◌, ◌≤◌, ◌&&◌, ◌||◌, Bool, true, false, not, cond, List, [], ◌∷◌, ◌++◌, length, map, Option, Some, None, is_some, refl, sym, ap, ap₂, ◌∙◌, subst, arith}
use Rattle.std.specs.Prelude.{option_and_then}
use Rattle.std.specs.Str.{bytes_eq}
use Rattle.std.specs.Cmp.{IsEquivalence}
use Rattle.std.specs.List.{AllByRecursion, IsDistinct, filter, list_any, range_with_len}
use Rattle.std.specs.List.Sorted.{IsPermutation}
use Rattle.std.proofs.lemmas.Bool.{and_parts}
use Rattle.std.proofs.lemmas.List.Sorted.{IsPermutation-sym}
use Rattle.plan_core.specs.Columns.{Columns}
use Rattle.plan_core.specs.declared.data_type.DataType.{DataType}
use Rattle.plan_tree.specs.Rose.{rose, no_roses, more}
use Rattle.plan_options.specs.declared.distinct.UniqueKeepStrategy.TheVariants as keeps
use Rattle.plan_options.specs.declared.group.GroupbyOptions.{GroupbyOptions}
use Rattle.plan_expr.specs.declared.agg.Aggregate.{Aggregate}
use Rattle.plan_expr.specs.Exprs.{column as column_of, literal, alias, binary, ternary, aggregate, call, window, len, Expr, Named}
use Rattle.plan_expr.specs.Naming.{name_of}
use Rattle.plan_expr.specs.Types.{aggregate_type}
use Rattle.plan_frame.specs.Aggregates.{aggregated}
use Rattle.plan_frame.specs.Exprs.{expr_type, type_by}
use Rattle.plan_frame.specs.Frames.{Column, Frame, HasSchema, picked, picked_columns, row, rows_at, with_column, with_columns}
use Rattle.plan_frame.specs.Grouping.{gathered, gathered_expr, group_exprs, nameless, over_keys, row_exprs}
use Rattle.plan_frame.specs.Made.{grouped, made, made_columns}
use Rattle.plan_frame.specs.Meaning.{Cell, CellHas, one, many, are_alike, cell_values, cells, filled, only_value, places_from, rows_alike, val, vals, value_at}
use Rattle.plan_frame.specs.Orders.{AreKept, has_earlier, key_cells}
use Rattle.plan_frame.specs.Values.{Value, same_value}
use Rattle.plan_frame.proofs.FrameLemmas.{rows_schema}
use Rattle.plan_frame.proofs.GroupLemmas.{all_back}
use Rattle.plan_frame.proofs.KeptRows.{alike_equivalence, passing}
use Rattle.plan_frame.proofs.SameValues.{value_decides}
use Rattle.plan_frame.proofs.Sound.{val_sound}
use Rattle.plan_meaning.specs.JoinChecks.{is_elementwise}
use Rattle.plan_meaning.specs.Typing.{AllHold, checks}
use Rattle.plan_meaning.proofs.CheckParts.{made_good}
use Rattle.plan_ir.specs.Plans.{group_by}
use Rattle.plan_order_laws.specs.Elementwise.{IsEven, all_elementwise, all_summaries, is_summary}
use Rattle.plan_order_laws.specs.Orderless.{ignores_order}
use Rattle.plan_order_laws.specs.Rows.{Below, nth, IsLevel, rows_cell}
use Rattle.plan_order_laws.proofs.Rows.{all_below, in_places, permuted_below, rows_twice}
use Rattle.plan_order_laws.proofs.Cells.{level_frame, numbers_rows, row_of_numbers}
use Rattle.plan_order_laws.proofs.RowCells.{val_rows}
use Rattle.plan_order_laws.proofs.MadeRows.{filled_rows, same_row, with_columns_rows, keys_rows}
use Rattle.plan_order_laws.proofs.PickedRows.{alike_rows}
use Rattle.plan_order_laws.proofs.KeptInOrder.{kept_rows}
use Rattle.plan_order_laws.specs.Shuffles.{Shuffled}
use Rattle.plan_order_laws.proofs.Shuffles.{places_filter, shuffled, shuffled_filter, shuffled_map}
use Rattle.plan_order_laws.proofs.Summaries.{aggregated_same}

-- Summaries over rows in another order

single_type : (op : Aggregate) (o : Option DataType) (s : Columns) → type_by (aggregate op) (o ∷ []) s ≡ option_and_then (aggregate_type op) o
single_type op None s = refl
single_type op (Some t) s = refl

module _ (g : Frame) (s : Columns) (has : HasSchema g s) where
  cell_same : (op : Aggregate) (t : DataType) (c : Cell) (is js : List ℕ) → ignores_order op ≡ true → is_some (aggregate_type op t) ≡ true → Shuffled is js → CellHas t (length is) (rows_cell is c) → aggregated op (cell_values (rows_cell is c)) ≡ aggregated op (cell_values (rows_cell js c))
  cell_same op t (one v) is js i e sh h = refl
  cell_same op t (many vs) is js i e sh h = aggregated_same op t i e (picked is vs) (picked js vs) (shuffled_map (row vs) is js sh) h.1

  summary_same : (e : Expr) → is_summary e ≡ true → is_some (expr_type e s) ≡ true → (is js : List ℕ) → Below g.height is → Below g.height js → Shuffled is js → val e (rows_at is g) ≡ val e (rows_at js g)
  summary_same (rose n (aggregate op) no_roses) w t is js b c sh = refl
  summary_same (rose n (aggregate op) (more e (more e' es))) w t is js b c sh = refl
  summary_same (rose n (aggregate op) (more e no_roses)) w t is js b c sh =
      let q = and_parts (ignores_order op) (is_elementwise e && true) w in
      let r = and_parts (is_elementwise e) true q.1 in
      at (expr_type e s) refl q.0 r.0 (sym (ap is_some (single_type op (expr_type e s) s)) ∙ t)
    where
      level : IsLevel g
      level = level_frame g s has

      none : false ≡ true → ⊥
      none e = cc

      at : (o : Option DataType) → expr_type e s ≡ o → ignores_order op ≡ true → is_elementwise e ≡ true → is_some (option_and_then (aggregate_type op) (expr_type e s)) ≡ true → val (rose n (aggregate op) (more e no_roses)) (rows_at is g) ≡ val (rose n (aggregate op) (more e no_roses)) (rows_at js g)
      at None f i el t = absurd (none (sym (ap (λ (o : Option DataType). is_some (option_and_then (aggregate_type op) o)) f) ∙ t))
      at (Some u) f i el t =
          let here : val e (rows_at is g) ≡ rows_cell is (val e g) = (val_rows g is b level e el).rows in
          let there : val e (rows_at js g) ≡ rows_cell js (val e g) = (val_rows g js c level e el).rows in
          let known : is_some (aggregate_type op u) ≡ true = sym (ap (λ (o : Option DataType). is_some (option_and_then (aggregate_type op) o)) f) ∙ t in
          let typed : CellHas u (length is) (rows_cell is (val e g)) = subst (CellHas u (length is)) here ((val_sound s e).by (rows_at is g) u (rows_schema is g s has) f) in
          ap (λ (x : Cell). one (aggregated op (cell_values x))) here
          ∙ ap one (cell_same op u (val e g) is js i known sh typed)
          ∙ ap (λ (x : Cell). one (aggregated op (cell_values x))) (sym there)
  summary_same (rose n (column_of a) es) w t is js b c sh = cc
  summary_same (rose n (literal v) es) w t is js b c sh = cc
  summary_same (rose n (alias a) es) w t is js b c sh = cc
  summary_same (rose n (binary o) es) w t is js b c sh = cc
  summary_same (rose n ternary es) w t is js b c sh = cc
  summary_same (rose n (call f o) es) w t is js b c sh = cc
  summary_same (rose n window es) w t is js b c sh = cc
  summary_same (rose n len es) w t is js b c sh = cc

-- Rows alike, of rows in another order

filter_map_same : (f : ℕ → ℕ) (p q : ℕ → Bool) (n : ℕ) (is : List ℕ) → Below n is → ((i : ℕ) → i < n → p i ≡ q (f i)) → map f (filter p is) ≡ filter q (map f is)
filter_map_same f p q n [] b same = refl
filter_map_same f p q n (i ∷ is) b same = ap (λ (c : Bool). map f (cond c (i ∷ filter p is) (filter p is))) (same i b.0) ∙ at (q (f i)) (filter_map_same f p q n is b.1 same)
  where
    at : (c : Bool) → map f (filter p is) ≡ filter q (map f is) → map f (cond c (i ∷ filter p is) (filter p is)) ≡ cond c (f i ∷ filter q (map f is)) (filter q (map f is))
    at true e = ap (λ (l : List ℕ). f i ∷ l) e
    at false e = e

filter_below : (p : ℕ → Bool) (n : ℕ) (is : List ℕ) → Below n is → Below n (filter p is)
filter_below p n [] b = tt
filter_below p n (i ∷ is) b = at (p i) (filter_below p n is b.1)
  where
    at : (c : Bool) → Below n (filter p is) → Below n (cond c (i ∷ filter p is) (filter p is))
    at true e = (b.0, e)
    at false e = e

alike_below : (ks : List Cell) (h i : ℕ) → Below h (rows_alike ks h i)
alike_below ks h i = subst (Below h) (sym (places_filter (are_alike ks i) 0 h)) (filter_below (are_alike ks i) h (range_with_len 0 h) (all_below h))

alike_shuffled : (ks : List Cell) (h : ℕ) (ps : List ℕ) (i : ℕ) → IsPermutation (range_with_len 0 h) ps → i < length ps → Shuffled (map (nth ps) (rows_alike (map (rows_cell ps) ks) (length ps) i)) (rows_alike ks h (nth ps i))
alike_shuffled ks h ps i p lt =
    let test = are_alike ks (nth ps i) in
    let same : map (nth ps) (rows_alike (map (rows_cell ps) ks) (length ps) i) ≡ filter test ps =
    ap (map (nth ps)) (places_filter (are_alike (map (rows_cell ps) ks) i) 0 (length ps))
    ∙ filter_map_same (nth ps) (are_alike (map (rows_cell ps) ks) i) test (length ps) (range_with_len 0 (length ps)) (all_below (length ps)) (λ j k. alike_rows ps ks i j lt k)
    ∙ ap (filter test) (in_places ps) in
    subst (λ (l : List ℕ). Shuffled l (rows_alike ks h (nth ps i))) (sym same)
    (subst (λ (l : List ℕ). Shuffled (filter test ps) l) (sym (places_filter test 0 h))
    (shuffled_filter test ps (range_with_len 0 h) (shuffled ps (range_with_len 0 h) (IsPermutation-sym (range_with_len 0 h) ps p))))

keys_cells : (keys : List Named) (f : Frame) → cells (vals (nameless keys)) f ≡ key_cells keys f
keys_cells [] f = refl
keys_cells (e ∷ es) f = ap (λ (cs : List Cell). val e.expr f ∷ cs) (keys_cells es f)

gathered_summary : (e : Expr) → is_summary e ≡ true → gathered_expr e ≡ e
gathered_summary (rose n (aggregate op) es) w = refl
gathered_summary (rose n (column_of a) es) w = cc
gathered_summary (rose n (literal v) es) w = cc
gathered_summary (rose n (alias a) es) w = cc
gathered_summary (rose n (binary o) es) w = cc
gathered_summary (rose n ternary es) w = cc
gathered_summary (rose n (call f o) es) w = cc
gathered_summary (rose n window es) w = cc
gathered_summary (rose n len es) w = cc

-- what a summary is in each row, over the rows with its keys
abbrev in_group : Expr → List Cell → Frame → ℕ → Value
in_group e ks f i = only_value (val e (rows_at (rows_alike ks f.height i) f))

over_is : (keys : List Named) (e : Named) (f : Frame) → is_summary e.expr ≡ true → val (over_keys keys e).expr f ≡ many (map (in_group e.expr (key_cells keys f) f) (range_with_len 0 f.height))
over_is keys e f w =
    ap (λ (x : Expr). many (map (in_group x (cells (vals (nameless keys)) f) f) (range_with_len 0 f.height))) (gathered_summary e.expr w)
    ∙ ap (λ (cs : List Cell). many (map (in_group e.expr cs f) (range_with_len 0 f.height))) (keys_cells keys f)

module _ (g : Frame) (s : Columns) (has : HasSchema g s) (ps : List ℕ) (p : IsPermutation (range_with_len 0 g.height) ps) (keys : List Named) (w : all_elementwise keys ≡ true) where
  abbrev ks : List Cell
  ks = key_cells keys g

  below : Below g.height ps
  below = permuted_below g.height ps p

  level : IsLevel g
  level = level_frame g s has

  keys_are : key_cells keys (rows_at ps g) ≡ map (rows_cell ps) (key_cells keys g)
  keys_are = keys_rows g ps below level keys w

  moved_below : (is : List ℕ) → Below (length ps) is → Below g.height (map (nth ps) is)
  moved_below [] b = tt
  moved_below (i ∷ is) b = (go ps below i b.0, moved_below is b.1)
    where
      go : (qs : List ℕ) → Below g.height qs → (i : ℕ) → i < length qs → nth qs i < g.height
      go [] b i lt = absurd (omega (arith, lt))
      go (q ∷ qs) b zero lt = b.0
      go (q ∷ qs) b (suc i) lt = go qs b.1 i (omega (arith, lt))

  group_at : (e : Expr) → is_summary e ≡ true → is_some (expr_type e s) ≡ true → (i : ℕ) → i < length ps → in_group e (map (rows_cell ps) (key_cells keys g)) (rows_at ps g) i ≡ in_group e (key_cells keys g) g (nth ps i)
  group_at e sm t i lt =
      let alike = rows_alike (map (rows_cell ps) (key_cells keys g)) (length ps) i in
      let b = alike_below (map (rows_cell ps) (key_cells keys g)) (length ps) i in
      ap (λ (f : Frame). only_value (val e f)) (rows_twice ps alike g b)
      ∙ ap only_value (summary_same g s has e sm t (map (nth ps) alike) (rows_alike (key_cells keys g) g.height (nth ps i)) (moved_below alike b) (alike_below (key_cells keys g) g.height (nth ps i)) (alike_shuffled (key_cells keys g) g.height ps i p lt))

  pub over_rows : (e : Named) → is_summary e.expr ≡ true → is_some (expr_type e.expr s) ≡ true → val (over_keys keys e).expr (rows_at ps g) ≡ rows_cell ps (val (over_keys keys e).expr g)
  over_rows e sm t =
      over_is keys e (rows_at ps g) sm
      ∙ ap (λ (cs : List Cell). many (map (in_group e.expr cs (rows_at ps g)) (range_with_len 0 (length ps)))) keys_are
      ∙ ap many (numbers_rows (in_group e.expr (key_cells keys g) g) (in_group e.expr (map (rows_cell ps) (key_cells keys g)) (rows_at ps g)) g.height ps below (group_at e.expr sm t))
      ∙ ap (rows_cell ps) (sym (over_is keys e g sm))

  -- each expression of the grouping has its rows one for one
  abbrev HasRows : Named → Type 0
  HasRows e = val e.expr (rows_at ps g) ≡ rows_cell ps (val e.expr g)

  keys_have : (es : List Named) → all_elementwise es ≡ true → AllByRecursion HasRows es
  keys_have [] e = tt
  keys_have (k ∷ es) e = let q = and_parts (is_elementwise k.expr) (all_elementwise es) e in ((val_rows g ps below level k.expr q.0).rows, keys_have es q.1)

  aggs_have : (es : List Named) → all_summaries es ≡ true → AllByRecursion (λ (e : Named). is_some (expr_type e.expr s) ≡ true) (map gathered es) → AllByRecursion HasRows (map (over_keys keys) es)
  aggs_have [] e t = tt
  aggs_have (a ∷ es) e t =
      let q = and_parts (is_summary a.expr) (all_summaries es) e in
      (over_rows a q.0 (subst (λ (x : Expr). is_some (expr_type x s) ≡ true) (gathered_summary a.expr q.0) t.0), aggs_have es q.1 t.1)

  both_have : (xs ys : List Named) → AllByRecursion HasRows xs → AllByRecursion HasRows ys → AllByRecursion HasRows (xs ++ ys)
  both_have [] ys h k = k
  both_have (x ∷ xs) ys h k = (h.0, both_have xs ys h.1 k)

  columns_have : (es : List Named) → AllByRecursion HasRows es → made_columns (length ps) (rows_at ps g) es ≡ picked_columns ps (made_columns g.height g es)
  columns_have [] h = refl
  columns_have (e ∷ es) h =
      ap₂ (λ (vs : List Value) (cs : List Column). record { name = name_of e.name; values = vs } ∷ cs)
      (ap (filled (length ps)) h.0 ∙ filled_rows (val e.expr g) g.height ps below)
      (columns_have es h.1)

  made_have : (es : List Named) → AllByRecursion HasRows es → made (length ps) [] es (rows_at ps g) ≡ rows_at ps (made g.height [] es g)
  made_have es h = ap (λ (cs : List Column). record { height = length ps; columns = cs }) (ap (with_columns []) (columns_have es h) ∙ with_columns_rows ps [] (made_columns g.height g es))

-- The first of each group

module _ (same : ℕ → ℕ → Bool) (o : IsEquivalence same) (h : ℕ) where
  -- the first row that is the same as a row
  pub record FirstOf (i : ℕ) : Type 0 where
    pub number : ℕ
    pub below : number < h
    pub alike : same i number ≡ true
    pub first : not (has_earlier same number) ≡ true

  first_within : (k i : ℕ) → i ≤ k → i < h → FirstOf i
  first_within zero i low lt = at (has_earlier same i) refl
    where
      at : (b : Bool) → has_earlier same i ≡ b → FirstOf i
      at false e = record { number = i; below = lt; alike = o.refl i; first = ap not e }
      at true e = let r = passing (same i) 0 i e in let q = r.below in absurd (omega (arith, low, q))
  first_within (suc k) i low lt = at (λ j less. first_within k j (omega (arith, low, less)) (omega (arith, lt, less))) (has_earlier same i) refl
    where
      at : ((j : ℕ) → j < i → FirstOf j) → (b : Bool) → has_earlier same i ≡ b → FirstOf i
      at by false e = record { number = i; below = lt; alike = o.refl i; first = ap not e }
      at by true e =
          let r = passing (same i) 0 i e in
          let q = r.below in
          let x = by r.number (omega (arith, q)) in
          record { number = x.number; below = x.below; alike = o.congr i r.number x.number r.passes ∙ x.alike; first = x.first }

  pub first_of : (i : ℕ) → i < h → FirstOf i
  first_of i lt = first_within i i (omega arith) lt

  abbrev pub firsts : (is : List ℕ) → Below h is → List ℕ
  firsts [] b = []
  firsts (i ∷ is) b = (first_of i b.0).number ∷ firsts is b.1

  firsts_below : (is : List ℕ) (b : Below h is) → Below h (firsts is b)
  firsts_below [] b = tt
  firsts_below (i ∷ is) b = ((first_of i b.0).below, firsts_below is b.1)

  firsts_may : (is : List ℕ) (b : Below h is) → AllByRecursion (λ i. not (has_earlier same i) ≡ true) (firsts is b)
  firsts_may [] b = tt
  firsts_may (i ∷ is) b = ((first_of i b.0).first, firsts_may is b.1)

  -- a row is the same as the first of a group where it is the same as a row of it
  as_first : (i j : ℕ) (lt : j < h) → same i (first_of j lt).number ≡ same i j
  as_first i j lt = let x = first_of j lt in o.symm i x.number ∙ sym (o.congr j x.number i x.alike) ∙ o.symm j i

  firsts_any : (i : ℕ) (is : List ℕ) (b : Below h is) → list_any (same i) (firsts is b) ≡ list_any (same i) is
  firsts_any i [] b = refl
  firsts_any i (j ∷ is) b = ap₂ (λ (x y : Bool). x || y) (as_first i j b.0) (firsts_any i is b.1)

  firsts_apart : (is : List ℕ) (b : Below h is) → IsDistinct same is → IsDistinct same (firsts is b)
  unfolding IsDistinct
  firsts_apart [] b d = tt
  firsts_apart (i ∷ is) b d = (go is b.1 d.0, firsts_apart is b.1 d.1)
    where
      go : (js : List ℕ) (c : Below h js) → AllByRecursion (λ y. same i y ≡ false) js → AllByRecursion (λ y. same (first_of i b.0).number y ≡ false) (firsts js c)
      go [] c d = tt
      go (j ∷ js) c d =
          let x = first_of i b.0 in
          let y = first_of j c.0 in
          (sym (o.congr i x.number y.number x.alike) ∙ as_first i j c.0 ∙ d.0, go js c.1 d.1)

  pub firsts_kept : (is : List ℕ) (b : Below h is) → AreKept false keeps.Any same h is → AreKept false keeps.First same h (firsts is b)
  firsts_kept is b k = record {
    below = firsts_below is b;
    apart = firsts_apart is b k.apart;
    may = firsts_may is b;
    must = λ i lt e. firsts_any i is b ∙ k.must i lt refl;
    in_order = λ e. cc;
  }

  picked_firsts : (vs : List Value) → ((i j : ℕ) → i < h → j < h → same i j ≡ true → row vs i ≡ row vs j) → (is : List ℕ) (b : Below h is) → picked is vs ≡ picked (firsts is b) vs
  picked_firsts vs even [] b = refl
  picked_firsts vs even (i ∷ is) b = let x = first_of i b.0 in ap₂ (λ (v : Value) (l : List Value). v ∷ l) (even i x.number b.0 x.below x.alike) (picked_firsts vs even is b.1)

  columns_firsts : (cs : List Column) → AllByRecursion (IsEven same h) cs → (is : List ℕ) (b : Below h is) → picked_columns is cs ≡ picked_columns (firsts is b) cs
  columns_firsts [] even is b = refl
  columns_firsts (c ∷ cs) even is b = ap₂ (λ (vs : List Value) (ds : List Column). record { name = c.name; values = vs } ∷ ds) (picked_firsts c.values even.0 is b) (columns_firsts cs even.1 is b)

  firsts_long : (is : List ℕ) (b : Below h is) → length is ≡ length (firsts is b)
  firsts_long [] b = refl
  firsts_long (i ∷ is) b = ap suc (firsts_long is b.1)

  -- such rows may be taken from the first ones
  pub rows_firsts : (f : Frame) → AllByRecursion (IsEven same h) f.columns → (is : List ℕ) (b : Below h is) → rows_at is f ≡ rows_at (firsts is b) f
  rows_firsts f even is b = ap₂ (λ (n : ℕ) (cs : List Column). record { height = n; columns = cs }) (firsts_long is b) (columns_firsts f.columns even is b)

  with_even : (cs : List Column) (c : Column) → AllByRecursion (IsEven same h) cs → IsEven same h c → AllByRecursion (IsEven same h) (with_column cs c)
  with_even [] c even e = (e, tt)
  with_even (d ∷ cs) c even e = at (bytes_eq c.name d.name) (with_even cs c even.1 e)
    where
      at : (b : Bool) → AllByRecursion (IsEven same h) (with_column cs c) → AllByRecursion (IsEven same h) (cond b (c ∷ cs) (d ∷ with_column cs c))
      at true k = (e, even.1)
      at false k = (even.0, k)

  pub all_even : (cs ds : List Column) → AllByRecursion (IsEven same h) cs → AllByRecursion (IsEven same h) ds → AllByRecursion (IsEven same h) (with_columns cs ds)
  all_even cs [] even k = even
  all_even cs (d ∷ ds) even k = all_even (with_column cs d) ds (with_even cs d even k.0) k.1

-- rows of groups may be taken from the first ones, where the columns are even
pub first_rows : (same : ℕ → ℕ → Bool) → IsEquivalence same → (h : ℕ) (f : Frame) → AllByRecursion (IsEven same h) f.columns → (rows : List ℕ) → AreKept false keeps.Any same h rows → (firsts : List ℕ) × AreKept false keeps.First same h firsts × (rows_at rows f ≡ rows_at firsts f)
first_rows same o h f even rows k = (firsts same o h rows k.below, firsts_kept same o h rows k.below k, rows_firsts same o h f even rows k.below)

-- What a grouping makes in each row is the same in rows with the same keys

filled_row : (c : Cell) (h i : ℕ) → i < h → row (filled h c) i ≡ value_at c i
filled_row (one v) h i lt = same_row v h i lt
filled_row (many vs) h i lt = refl

places_same : (p q : ℕ → Bool) (a n : ℕ) → ((k : ℕ) → p k ≡ q k) → places_from p a n ≡ places_from q a n
places_same p q a zero e = refl
places_same p q a (suc n) e = ap₂ (λ (b : Bool) (l : List ℕ). cond b (a ∷ l) l) (e a) (places_same p q (suc a) n e)

module _ (keys : List Named) (g : Frame) where
  abbrev same_keys : ℕ → ℕ → Bool
  same_keys = are_alike (key_cells keys g)

  abbrev Even : Column → Type 0
  Even = IsEven (are_alike (key_cells keys g)) g.height

  keys_even : (es : List Named) → ((i j : ℕ) → are_alike (key_cells keys g) i j ≡ true → are_alike (key_cells es g) i j ≡ true) → AllByRecursion Even (made_columns g.height g es)
  keys_even [] sub = tt
  keys_even (e ∷ es) sub = (
    λ i j lt k a.
        let q = and_parts (same_value (value_at (val e.expr g) i) (value_at (val e.expr g) j)) (are_alike (key_cells es g) i j) (sub i j a) in
        filled_row (val e.expr g) g.height i lt ∙ (value_decides (value_at (val e.expr g) i) (value_at (val e.expr g) j)).0 q.0 ∙ sym (filled_row (val e.expr g) g.height j k),
    keys_even es (λ i j a. (and_parts (same_value (value_at (val e.expr g) i) (value_at (val e.expr g) j)) (are_alike (key_cells es g) i j) (sub i j a)).1),
  )

  group_even : (e : Expr) (i j : ℕ) → are_alike (key_cells keys g) i j ≡ true → in_group e (key_cells keys g) g i ≡ in_group e (key_cells keys g) g j
  group_even e i j a = ap (λ (is : List ℕ). only_value (val e (rows_at is g))) (places_same (are_alike (key_cells keys g) i) (are_alike (key_cells keys g) j) 0 g.height (λ k. (alike_equivalence (key_cells keys g)).congr i j k a))

  aggs_even : (es : List Named) → all_summaries es ≡ true → AllByRecursion Even (made_columns g.height g (map (over_keys keys) es))
  aggs_even [] sm = tt
  aggs_even (e ∷ es) sm =
      let q = and_parts (is_summary e.expr) (all_summaries es) sm in (
        λ i j lt k a.
            let at : (i : ℕ) → i < g.height → row (filled g.height (val (over_keys keys e).expr g)) i ≡ in_group e.expr (key_cells keys g) g i =
            λ i lt. ap (λ (c : Cell). row (filled g.height c) i) (over_is keys e g q.0) ∙ row_of_numbers (in_group e.expr (key_cells keys g) g) 0 g.height i lt ∙ ap (in_group e.expr (key_cells keys g) g) (omega arith) in
            at i lt ∙ group_even e.expr i j a ∙ sym (at j k),
        aggs_even es q.1,
      )

  both_even : (xs ys : List Named) → AllByRecursion Even (made_columns g.height g xs) → AllByRecursion Even (made_columns g.height g ys) → AllByRecursion Even (made_columns g.height g (xs ++ ys))
  both_even [] ys h k = k
  both_even (x ∷ xs) ys h k = (h.0, both_even xs ys h.1 k)

-- over rows in another order a grouping gives what it may give over the rows
pub group_rows : (keys aggs : List Named) (stored : Columns) (options : GroupbyOptions) (s : Columns) → AllHold (checks (group_by keys aggs stored false options) (s ∷ [])) → all_elementwise keys ≡ true → all_summaries aggs ≡ true → (g : Frame) (ps rows : List ℕ) → HasSchema g s → IsPermutation (range_with_len 0 g.height) ps → AreKept false keeps.First (are_alike (key_cells keys (rows_at ps g))) (length ps) rows → (kept : List ℕ) × AreKept false keeps.First (are_alike (key_cells keys g)) g.height kept × (grouped keys aggs rows (rows_at ps g) ≡ grouped keys aggs kept g)
group_rows keys aggs stored options s good w sm g ps rows has p k =
    let ks = key_cells keys g in
    let same = are_alike ks in
    let o = alike_equivalence ks in
    let es = row_exprs keys aggs in
    let whole = made g.height [] es g in
    let typed = all_back (λ (e : Named). is_some (expr_type e.expr s) ≡ true) keys (map gathered aggs) (made_good [] (group_exprs keys aggs) stored s good.1).typed in
    let by : AreKept false keeps.First (are_alike (map (rows_cell ps) ks)) (length ps) rows = subst (λ (cs : List Cell). AreKept false keeps.First (are_alike cs) (length ps) rows) (keys_rows g ps (permuted_below g.height ps p) (level_frame g s has) keys w) k in
    let any : AreKept false keeps.Any (are_alike (map (rows_cell ps) ks)) (length ps) rows = record { below = by.below; apart = by.apart; may = all_may rows; must = λ i lt e. by.must i lt refl; in_order = λ e. cc } in
    let moved = map (nth ps) rows in
    let kept : AreKept false keeps.Any same g.height moved = kept_rows same (are_alike (map (rows_cell ps) ks)) o g.height ps p (λ i j lt m. alike_rows ps ks i j lt m) keeps.Any rows refl any in
    let even = all_even same o g.height [] (made_columns g.height g es) tt (both_even keys g keys (map (over_keys keys) aggs) (keys_even keys g keys (λ i j a. a)) (aggs_even keys g aggs sm)) in
    let have = both_have g s has ps p keys w keys (map (over_keys keys) aggs) (keys_have g s has ps p keys w keys w) (aggs_have g s has ps p keys w aggs sm typed) in
    let first = first_rows same o g.height whole even moved kept in
    (first.0, first.1, ap (rows_at rows) (made_have g s has ps p keys w es have) ∙ rows_twice ps rows whole k.below ∙ first.2)
  where
    all_may : (is : List ℕ) → AllByRecursion (λ (i : ℕ). true ≡ true) is
    all_may [] = tt
    all_may (i ∷ is) = (refl, all_may is)
