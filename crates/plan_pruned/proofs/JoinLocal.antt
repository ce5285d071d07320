-- A join over narrowed sides is valid, and may take the same pairs of rows.
use Rattle.std.proofs.Common.{◌≡◌, ℕ, suc, ◌==◌, Bool, true, ◌&&◌, ◌||◌, List, [], ◌∷◌, ◌++◌, map, length, Option, Some, None, refl, sym, ap, ap₂, ◌∙◌, subst, is_some, arith}
use Rattle.std.specs.List.{AllByRecursion}
use Rattle.std.specs.Option.{option_map}
use Rattle.std.proofs.lemmas.Bool.{and_parts, eqb-true}
use Rattle.plan_core.specs.declared.data_type.DataType.{DataType}
use Rattle.plan_core.specs.declared.data_type.DataType.TheVariants as types
use Rattle.plan_core.specs.Columns.{Columns, HasDistinctNames, names_of, type_of}
use Rattle.plan_core.specs.Names.{has, AreDistinct}
use Rattle.plan_options.specs.declared.join.JoinArgs.{JoinArgs}
use Rattle.plan_options.specs.declared.join.JoinType.{JoinType}
use Rattle.plan_options.specs.declared.join.JoinType.TheVariants.{Inner, Left, Right, Full, Cross, Semi, Anti, IEJoin}
use Rattle.plan_options.specs.declared.join.MaintainOrderJoin.{MaintainOrderJoin}
use Rattle.plan_options.specs.Join.{suffix_of}
use Rattle.plan_expr.specs.Exprs.{Named}
use Rattle.plan_expr.specs.Leaves.{Name, leaves}
use Rattle.plan_expr.specs.Naming.{naming, may_be_named}
use Rattle.plan_ir.specs.Plans.{join}
use Rattle.plan_frame.specs.ExprLists.{all_leaves}
use Rattle.plan_frame.specs.Exprs.{all_known, expr_type, is_type}
use Rattle.plan_frame.specs.Frames.{Frame, HasSchema, Agree, AgreeBy}
use Rattle.plan_frame.specs.Meaning.{Cell, val, value_at}
use Rattle.plan_frame.specs.Orders.{key_cells}
use Rattle.plan_frame.specs.Values.{is_true}
use Rattle.plan_frame.proofs.Depends.{type_within}
use Rattle.plan_frame.proofs.FrameLemmas.{agree_fewer}
use Rattle.plan_frame.proofs.NameSets.{has_front}
use Rattle.plan_frame.proofs.TurnLemmas.{HaveSchemas}
use Rattle.plan_join.specs.declared.origin.Side.TheVariants as sides
use Rattle.plan_join.specs.Naming.{join_columns, left_rest, right_name, right_rest}
use Rattle.plan_join.specs.Origins.{puts_out_left, puts_out_right}
use Rattle.plan_join.specs.Told.{KindOptions, inequalities, condition, Told, column_keys, operators}
use Rattle.plan_join.specs.Joined.{joined}
use Rattle.plan_join.specs.Matching.{condition_holds, join_test, keys_match, keys_meet, matches_by, Joins}
use Rattle.plan_join.proofs.NameLemmas.{left-where, names-where, right-where}
use Rattle.plan_join.specs.declared.pairs.RowPair.{RowPair}
use Rattle.plan_join.specs.Orders.{ArePicked}
use Rattle.plan_join.specs.Pairs.{Test, both}
use Rattle.plan_meaning.specs.Asked.{set_of}
use Rattle.plan_meaning.specs.Checks.{is_none}
use Rattle.plan_meaning.specs.JoinAsked.{left_asked, needed_of, origin_of, right_asked}
use Rattle.plan_meaning.specs.JoinChecks.{are_one_type, are_paired, conditions, fits_kind, is_built_join, is_formed_condition, is_formed_key, is_key_type, pair_checks}
use Rattle.plan_meaning.specs.Relating.{Holding, AgreeOn, NarrowColumns}
use Rattle.plan_meaning.specs.Steps.{OnTwo}
use Rattle.plan_meaning.specs.Typing.{AllHold}
use Rattle.plan_meaning.proofs.CheckParts.{is_same}
use Rattle.plan_pruned.proofs.SideLemmas.{good_join, SameLeaves, front_leaves, back_leaves, same_known, holding_same, same_keys}
use Rattle.plan_meaning.proofs.JoinLemmas.{differ_distinct, distinct_differ, JoinGood}
use Rattle.plan_meaning.proofs.KeptExprs.{distinct_where}
use Rattle.plan_meaning.proofs.Related.{FramesRelated, LocalTo}
use Rattle.plan_pruned.specs.JoinPruned.{called_now, narrowed_args, narrowed_told, renamed_condition, renamed_expr, renamed_kind}
use Rattle.plan_pruned.proofs.JoinColumns.{names-joined}
use Rattle.plan_pruned.proofs.JoinFrames.{keys_asked, lefts_less, renamed_columns, renamed_frames, rights_less}
use Rattle.plan_pruned.proofs.JoinKept.{Kept, kept_args}
use Rattle.plan_pruned.proofs.JoinNames.{narrow_distinct}
use Rattle.plan_pruned.proofs.JoinRenames.{val-renamed, type-renamed, known-renamed, form-renamed, elementwise-renamed, may-renamed}
use Rattle.plan_pruned.proofs.JoinTops.{Renamed, View, seen, renamed, SeeColumns, SeeFrames}

-- what is asked of a side, where it may be everything

pub held_of : (l : List Name) (r s : Columns) → NarrowColumns (set_of l) r s → Holding l r s
held_of [] r s h = record { held = λ a i. cc; within = λ a e. ap (λ (u : Columns). is_some (type_of u a)) (sym h) ∙ e }
held_of (a ∷ l) r s h = h

pub agree_of : (l : List Name) (f g : Frame) → AgreeOn (set_of l) f g → Agree l f g
agree_of [] f g h = record { height = ap (λ (x : Frame). x.height) h; same = λ a i. cc }
agree_of (a ∷ l) f g h = h

-- tests that answer alike are the same
test_same : (s t : Test) → ((i j : ℕ) → s i j ≡ t i j) → s ≡ t
test_same s t h = λ k i j. h i j k

-- keys over columns with the same leaves

same_key_types : (how : JoinType) (es : List Named) (r s : Columns) → SameLeaves es r s → AllByRecursion (λ (e : Named). is_key_type how (expr_type e.expr s) ≡ true) es → AllByRecursion (λ (e : Named). is_key_type how (expr_type e.expr r) ≡ true) es
same_key_types how [] r s h k = tt
same_key_types how (e ∷ es) r s h k = (ap (is_key_type how) (type_within e.expr r s (front_leaves e es r s h)) ∙ k.0, same_key_types how es r s (back_leaves e es r s h) k.1)

pub same_pairs : (how : JoinType) (k : ℕ) (r1 s r2 t : Columns) (ls rs : List Named) → SameLeaves ls r1 s → SameLeaves rs r2 t → AllHold (pair_checks how k s t ls rs) → AllHold (pair_checks how k r1 r2 ls rs)
same_pairs how k r1 s r2 t (l ∷ ls) (r ∷ rs) hl hr h = (
  ap₂ (λ (x y : Option DataType). is_key_type how y && are_one_type x y) (type_within l.expr r1 s (front_leaves l ls r1 s hl)) (type_within r.expr r2 t (front_leaves r rs r2 t hr)) ∙ h.0,
  same_pairs how (suc k) r1 s r2 t ls rs (back_leaves l ls r1 s hl) (back_leaves r rs r2 t hr) h.1,
)
same_pairs how k r1 s r2 t [] rs hl hr h = tt
same_pairs how k r1 s r2 t (l ∷ ls) [] hl hr h = tt

-- options under other names

fits-renamed : (now : Name → Name) (how : JoinType) (pairs : ℕ) (o : Option KindOptions) → fits_kind how pairs (option_map (renamed_kind now) o) ≡ fits_kind how pairs o
fits-renamed now how pairs None = refl
fits-renamed now how pairs (Some (inequalities o)) = refl
fits-renamed now Inner pairs (Some (condition e)) = refl
fits-renamed now Left pairs (Some (condition e)) = refl
fits-renamed now Right pairs (Some (condition e)) = refl
fits-renamed now Full pairs (Some (condition e)) = refl
fits-renamed now Cross pairs (Some (condition e)) = refl
fits-renamed now Semi pairs (Some (condition e)) = refl
fits-renamed now Anti pairs (Some (condition e)) = refl
fits-renamed now IEJoin pairs (Some (condition e)) = refl

each_condition : (P Q : Named → Type 0) (now : Name → Name) (o : Option KindOptions) → ((e : Named) → conditions o ≡ e ∷ [] → P e → Q (renamed_condition now e)) → AllByRecursion P (conditions o) → AllByRecursion Q (conditions (option_map (renamed_kind now) o))
each_condition P Q now None by h = tt
each_condition P Q now (Some (inequalities o)) by h = tt
each_condition P Q now (Some (condition e)) by h = (by e refl h.0, tt)

-- a join with a condition has no keys

no_names : (es : List Named) → (length es == 0) ≡ true → es ≡ []
no_names [] e = refl
no_names (x ∷ es) e = absurd (omega (arith, eqb-true (length (x ∷ es)) 0 e))

crossed : (how : JoinType) (l r pairs : ℕ) (e : Named) → fits_kind how pairs (Some (condition e)) ≡ true → are_paired how l r ≡ true → (l == 0 && r == 0) ≡ true
crossed Cross l r pairs e f p = p
crossed how l r pairs e f p = absurd (cc)

all_and : (P : Named → Type 0) (xs ys : List Named) → AllByRecursion P xs → AllByRecursion P ys → AllByRecursion P (xs ++ ys)
all_and P [] ys h k = k
all_and P (x ∷ xs) ys h k = (h.0, all_and P xs ys h.1 k)

all_before : (P : Named → Type 0) (xs ys : List Named) → AllByRecursion P (xs ++ ys) → AllByRecursion P xs
all_before P [] ys h = tt
all_before P (x ∷ xs) ys h = (h.0, all_before P xs ys h.1)

all_behind : (P : Named → Type 0) (xs ys : List Named) → AllByRecursion P (xs ++ ys) → AllByRecursion P ys
all_behind P [] ys h = h
all_behind P (x ∷ xs) ys h = all_behind P xs ys h.1

module _ (left_on right_on : List Named) (stored : Columns) (told : Told) (wanted : List Name) (s t r1 r2 : Columns) (g : JoinGood left_on right_on stored told s t) (hl : Holding (left_asked left_on right_on told wanted s t) r1 s) (hr : Holding (right_asked left_on right_on told wanted s t) r2 t) (once1 : HasDistinctNames r1) (once2 : HasDistinctNames r2) (known : (a : Name) → has (needed_of told wanted) a ≡ true → is_some (type_of (join_columns told.args (column_keys left_on) (column_keys right_on) s t) a) ≡ true) where
  abbrev own : JoinArgs
  own = told.args

  abbrev pub left : JoinArgs
  left = narrowed_args told.args wanted right_on s

  abbrev lk : List Name
  lk = column_keys left_on

  abbrev rk : List Name
  rk = column_keys right_on

  abbrev needed : List Name
  needed = needed_of told wanted

  abbrev pub now : Name → Name
  now = called_now left lk r1 (origin_of left_on right_on told s t)

  abbrev pub columns : Columns
  columns = join_columns left lk rk r1 r2

  abbrev pub told_left : Told
  told_left = narrowed_told now left told

  kept : Kept own left right_on (origin_of left_on right_on told s t) needed
  kept = kept_args left_on right_on stored told wanted s t g

  wide_once : HasDistinctNames (join_columns own lk rk s t)
  wide_once = differ_distinct (names_of (join_columns own lk rk s t)) g.differ

  left_distinct : AreDistinct (names_of (left_rest left lk r1))
  left_distinct = subst (λ (u : Columns). AreDistinct (names_of u)) (sym (left-where left lk r1)) (subst AreDistinct (names-where (puts_out_left left lk) r1) (distinct_where (puts_out_left left lk) (names_of r1) once1))

  right_distinct : AreDistinct (names_of (right_rest left rk r2))
  right_distinct = subst (λ (u : Columns). AreDistinct (names_of u)) (sym (right-where left rk r2)) (subst AreDistinct (names-where (puts_out_right left rk) r2) (distinct_where (puts_out_right left rk) (names_of r2) once2))

  pub narrow_once : HasDistinctNames columns
  narrow_once =
      let l = names_of (left_rest own lk s) in
      let r = names_of (right_rest own rk t) in
      let l' = names_of (left_rest left lk r1) in
      let r' = names_of (right_rest left rk r2) in
      subst AreDistinct (sym (names-joined left lk rk r1 r2 ∙ ap (λ (x : Name). l' ++ map (right_name x l') r') kept.suffix))
      (narrow_distinct (suffix_of own) l l' r r' (subst AreDistinct (names-joined own lk rk s t) wide_once)
      (lefts_less left_on right_on told left wanted s t r1 r2 kept hl hr) (rights_less left_on right_on told left wanted s t r1 r2 kept hl hr)
      left_distinct right_distinct)

  pub held_now : Renamed now needed columns (join_columns own lk rk s t)
  held_now = renamed_columns left_on right_on told left wanted s t r1 r2 kept hl hr wide_once narrow_once known

  left_leaves : SameLeaves left_on r1 s
  left_leaves b i = holding_same (left_asked left_on right_on told wanted s t) r1 s hl b (keys_asked sides.Left left_on (origin_of left_on right_on told s t) s needed b i)

  right_leaves : SameLeaves right_on r2 t
  right_leaves b i = holding_same (right_asked left_on right_on told wanted s t) r2 t hr b (keys_asked sides.Right right_on (origin_of left_on right_on told s t) t needed b i)

  -- what the condition reads is needed
  read : (e : Named) → conditions told.options ≡ e ∷ [] → (a : Name) → has (leaves e.expr) a ≡ true → has needed a ≡ true
  read e is a i = has_front (all_leaves (conditions told.options)) wanted a (subst (λ (es : List Named). has (all_leaves es) a ≡ true) (sym is) (has_front (leaves e.expr) [] a i))

  built_left : is_built_join (length left_on) (length right_on) told_left ≡ true
  unfolding is_built_join
  built_left = ap₂ (λ (x : Bool) (how : JoinType). x && (are_paired how (length left_on) (length right_on) && fits_kind how (length left_on) (option_map (renamed_kind now) told.options))) (ap is_none kept.slice) kept.how
      ∙ ap (λ (x : Bool). is_none own.slice && (are_paired own.how (length left_on) (length right_on) && x)) (fits-renamed now own.how (length left_on) told.options)
      ∙ g.built

  pub good_left : JoinGood left_on right_on columns told_left r1 r2
  good_left = record {
    built = built_left;
    left_formed = subst (λ (p : Bool). AllByRecursion (λ (e : Named). is_formed_key p e ≡ true) left_on) (sym (ap₂ (λ (x y : Bool). x || y) kept.left_drops kept.filled)) g.left_formed;
    right_formed = kept.right_formed;
    condition_formed = each_condition (λ (e : Named). is_formed_condition e ≡ true) (λ (e : Named). is_formed_condition e ≡ true) now told.options (λ e is h. ap₂ (λ (x y : Bool). x && y) (form-renamed now e.expr) (elementwise-renamed now e.expr) ∙ h) g.condition_formed;
    left_known = same_known left_on r1 s left_leaves g.left_known;
    right_known = same_known right_on r2 t right_leaves g.right_known;
    condition_known = each_condition (λ (e : Named). all_known (leaves e.expr) (join_columns own lk rk s t) ≡ true) (λ (e : Named). all_known (leaves e.expr) columns ≡ true) now told.options (λ e is h. known-renamed now e.expr columns (λ a i. ap is_some (held_now.held a (read e is a i)).1)) g.condition_known;
    left_typed = subst (λ (how : JoinType). AllByRecursion (λ (e : Named). is_key_type how (expr_type e.expr r1) ≡ true) left_on) (sym kept.how) (same_key_types own.how left_on r1 s left_leaves g.left_typed);
    pairs = subst (λ (how : JoinType). AllHold (pair_checks how (suc (length left_on)) r1 r2 left_on right_on)) (sym kept.how) (same_pairs own.how (suc (length left_on)) r1 s r2 t left_on right_on left_leaves right_leaves g.pairs);
    condition_typed = each_condition (λ (e : Named). is_type (expr_type e.expr (join_columns own lk rk s t)) types.Boolean ≡ true) (λ (e : Named). is_type (expr_type e.expr columns) types.Boolean ≡ true) now told.options
        (λ e is h. ap (λ (o : Option DataType). is_type o types.Boolean) (type-renamed now e.expr columns (join_columns own lk rk s t) (λ a i. let k = held_now.held a (read e is a i) in k.1 ∙ sym k.2)) ∙ h) g.condition_typed;
    left_differ = distinct_differ (names_of r1) once1;
    right_differ = distinct_differ (names_of r2) once2;
    differ = distinct_differ (names_of columns) narrow_once;
    same = is_same columns columns refl;
    named = all_and (λ (e : Named). may_be_named e.name (naming e.expr) ≡ true) (left_on ++ right_on) (conditions told_left.options) (all_before (λ (e : Named). may_be_named e.name (naming e.expr) ≡ true) (left_on ++ right_on) (conditions told.options) g.named)
        (each_condition (λ (e : Named). may_be_named e.name (naming e.expr) ≡ true) (λ (e : Named). may_be_named e.name (naming e.expr) ≡ true) now told.options (λ e is h. may-renamed now e.name e.expr h) (all_behind (λ (e : Named). may_be_named e.name (naming e.expr) ≡ true) (left_on ++ right_on) (conditions told.options) g.named));
  }

  -- frames

  module _ (f1 f g1 h : Frame) (hf1 : HasSchema f1 r1) (hf : HasSchema f s) (hg1 : HasSchema g1 r2) (hg : HasSchema h t) (al : Agree (left_asked left_on right_on told wanted s t) f1 f) (ar : Agree (right_asked left_on right_on told wanted s t) g1 h) where
    agree_now : (ps : List RowPair) → AgreeBy now needed (joined left lk rk ps f1 g1) (joined own lk rk ps f h)
    agree_now = renamed_frames left_on right_on told left wanted s t r1 r2 kept hl hr wide_once narrow_once known f1 f g1 h hf1 hf hg1 hg al ar

    left_cells : key_cells left_on f1 ≡ key_cells left_on f
    left_cells = same_keys left_on f1 f (agree_fewer (all_leaves left_on) (left_asked left_on right_on told wanted s t) f1 f (λ b i. keys_asked sides.Left left_on (origin_of left_on right_on told s t) s needed b i) al)

    right_cells : key_cells right_on g1 ≡ key_cells right_on h
    right_cells = same_keys right_on g1 h (agree_fewer (all_leaves right_on) (right_asked left_on right_on told wanted s t) g1 h (λ b i. keys_asked sides.Right right_on (origin_of left_on right_on told s t) t needed b i) ar)

    -- where there is a condition there are no keys
    no_keys : (e : Named) → told.options ≡ Some (condition e) → (left_on ≡ []) × (right_on ≡ [])
    unfolding is_built_join
    no_keys e is =
        let p = and_parts (are_paired own.how (length left_on) (length right_on)) (fits_kind own.how (length left_on) told.options) (and_parts (is_none own.slice) (are_paired own.how (length left_on) (length right_on) && fits_kind own.how (length left_on) told.options) g.built).1 in
        let q = and_parts (length left_on == 0) (length right_on == 0) (crossed own.how (length left_on) (length right_on) (length left_on) e (ap (fits_kind own.how (length left_on)) (sym is) ∙ p.1) p.0) in
        (no_names left_on q.0, no_names right_on q.1)

    test-is : (o : Option KindOptions) → told.options ≡ o → matches_by told_left left_on right_on f1 g1 (option_map (renamed_kind now) o) ≡ matches_by told left_on right_on f h o
    test-is None is = ap₂ (λ (n : Bool) (cs : List Cell). keys_match n cs (key_cells right_on g1)) kept.nulls left_cells ∙ ap (keys_match own.join_nulls (key_cells left_on f)) right_cells
    test-is (Some (inequalities o)) is = ap₂ (keys_meet (operators o)) left_cells right_cells
    test-is (Some (condition e)) is = test_same (condition_holds told_left (renamed_condition now e) f1 g1) (condition_holds told e f h) (λ i j.
        let none = no_keys e is in
        let ps = both i j ∷ [] in
        let here : joined left [] [] ps f1 g1 ≡ joined left lk rk ps f1 g1 = ap₂ (λ (ls rs : List Named). joined left (column_keys ls) (column_keys rs) ps f1 g1) (sym none.0) (sym none.1) in
        let there : joined own [] [] ps f h ≡ joined own lk rk ps f h = ap₂ (λ (ls rs : List Named). joined own (column_keys ls) (column_keys rs) ps f h) (sym none.0) (sym none.1) in
        ap (λ (c : Cell). is_true (value_at c 0))
        (ap (val (renamed_expr now e.expr)) here
        ∙ val-renamed now e.expr needed (joined left lk rk ps f1 g1) (joined own lk rk ps f h) (read e (ap conditions is)) (agree_now ps)
        ∙ ap (val e.expr) (sym there)))

    pub tests-same : join_test told_left left_on right_on f1 g1 ≡ join_test told left_on right_on f h
    tests-same = test-is told.options refl

    -- a frame that the narrowed join may give is one of the join, under the names that its columns have now
    pub joins_left : (x : Frame) → Joins told_left left_on right_on f1 g1 x → (y : Frame) × Joins told left_on right_on f h y × AgreeBy now needed x y
    joins_left x st = (
      joined own lk rk st.0 f h,
      (st.0, picked st.0 st.1, refl),
      subst (λ (z : Frame). AgreeBy now needed z (joined own lk rk st.0 f h)) (sym st.2) (agree_now st.0),
    )
      where
        picked : (ps : List RowPair) → ArePicked left.how left.maintain_order (join_test told_left left_on right_on f1 g1) f1.height g1.height ps → ArePicked own.how own.maintain_order (join_test told left_on right_on f h) f.height h.height ps
        picked ps p =
            let a = subst (λ (how : JoinType). ArePicked how left.maintain_order (join_test told_left left_on right_on f1 g1) f1.height g1.height ps) kept.how p in
            let b = subst (λ (o : MaintainOrderJoin). ArePicked own.how o (join_test told_left left_on right_on f1 g1) f1.height g1.height ps) kept.order a in
            let c = subst (λ (u : Test). ArePicked own.how own.maintain_order u f1.height g1.height ps) tests-same b in
            let d = subst (λ (n : ℕ). ArePicked own.how own.maintain_order (join_test told left_on right_on f h) n g1.height ps) al.height c in
            subst (λ (n : ℕ). ArePicked own.how own.maintain_order (join_test told left_on right_on f h) f.height n ps) ar.height d

  -- the narrowed join has what is needed of the join, under the names that it has now
  pub join_local : LocalTo View SeeColumns SeeFrames (join left_on right_on columns told_left) (join left_on right_on stored told) (seen (set_of (left_asked left_on right_on told wanted s t)) ∷ seen (set_of (right_asked left_on right_on told wanted s t)) ∷ []) (renamed now needed) (r1 ∷ r2 ∷ []) (s ∷ t ∷ [])
  join_local = record {
    good = good_join left_on right_on columns told_left r1 r2 good_left;
    schema = held_now;
    fits = λ c k. tt;
    step = λ c fs gs x k hr has ag st. step_left fs gs x hr has ag st;
  }
    where
      step_left : (fs gs : List Frame) (x : Frame) → HaveSchemas fs (r1 ∷ r2 ∷ []) → HaveSchemas gs (s ∷ t ∷ []) → FramesRelated View SeeColumns SeeFrames (seen (set_of (left_asked left_on right_on told wanted s t)) ∷ seen (set_of (right_asked left_on right_on told wanted s t)) ∷ []) fs gs → OnTwo fs (λ u v. Joins told_left left_on right_on u v x) → (y : Frame) × OnTwo gs (λ u v. Joins told left_on right_on u v y) × AgreeBy now needed x y
      step_left (f1 ∷ g1 ∷ []) (f ∷ h ∷ []) x hr has ag st =
          joins_left f1 f g1 h hr.0 has.0 hr.1.0 has.1.0 (agree_of (left_asked left_on right_on told wanted s t) f1 f ag.0) (agree_of (right_asked left_on right_on told wanted s t) g1 h ag.1.0) x st
      step_left [] gs x hr has ag st = absurd hr
      step_left (f1 ∷ []) gs x hr has ag st = absurd hr.1
      step_left (f1 ∷ g1 ∷ k1 ∷ fs) gs x hr has ag st = absurd hr.1.1
      step_left (f1 ∷ g1 ∷ []) [] x hr has ag st = absurd has
      step_left (f1 ∷ g1 ∷ []) (f ∷ []) x hr has ag st = absurd has.1
      step_left (f1 ∷ g1 ∷ []) (f ∷ h ∷ k ∷ gs) x hr has ag st = absurd has.1.1
