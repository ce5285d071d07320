-- A join of which everything is asked, over sides of which everything is asked, but for a right side whose columns it doesn't put out.
use Rattle.std.proofs.Common.{◌≡◌, ℕ, suc, Bool, true, false, not, ◌&&◌, cond, List, [], ◌∷◌, ◌++◌, map, length, Option, Some, None, refl, sym, ap, ap₂, ◌∙◌, subst, append-nil}
use Rattle.std.specs.List.{AllByRecursion}
use Rattle.std.proofs.lemmas.Bool.{and_parts, both_ways}
use Rattle.plan_core.specs.declared.data_type.DataType.TheVariants as types
use Rattle.plan_core.specs.Columns.{Columns, HasDistinctNames, names_of, same_columns}
use Rattle.plan_core.specs.Names.{has, with_names}
use Rattle.plan_options.specs.declared.join.JoinArgs.{JoinArgs}
use Rattle.plan_options.specs.declared.join.JoinCoalesce.{JoinCoalesce}
use Rattle.plan_options.specs.declared.join.JoinType.{JoinType}
use Rattle.plan_options.specs.declared.join.JoinType.TheVariants.{Cross, Semi, Anti}
use Rattle.plan_options.specs.Join.{coalesces, suffix_of}
use Rattle.plan_expr.specs.Exprs.{Named}
use Rattle.plan_expr.specs.Leaves.{Name, leaves}
use Rattle.plan_ir.specs.Plans.{join}
use Rattle.plan_frame.specs.ExprLists.{all_leaves}
use Rattle.plan_frame.specs.Exprs.{all_known, expr_type, is_type}
use Rattle.plan_frame.specs.Frames.{Column, Frame, Agree, column_names}
use Rattle.plan_frame.specs.Orders.{key_cells}
use Rattle.plan_frame.proofs.FrameLemmas.{agree_fewer}
use Rattle.plan_frame.proofs.NameSets.{adds_names}
use Rattle.plan_frame.proofs.TurnLemmas.{HaveSchemas}
use Rattle.plan_join.specs.declared.origin.Side.TheVariants as sides
use Rattle.plan_join.specs.Naming.{but_for, drops_left, has_right, join_columns, left_rest, right_rest, with_right}
use Rattle.plan_join.specs.Told.{KindOptions, inequalities, condition, Told, column_keys, operators}
use Rattle.plan_join.specs.Joined.{call, joined, side_column}
use Rattle.plan_join.specs.Matching.{join_test, keys_match, keys_meet, matches_by, Joins}
use Rattle.plan_join.specs.Sides.{fills, filler, left_out, partner, right_out}
use Rattle.plan_join.specs.declared.pairs.RowPair.{RowPair}
use Rattle.plan_join.specs.Orders.{ArePicked}
use Rattle.plan_join.specs.Pairs.{Test}
use Rattle.plan_meaning.specs.Asked.{set_of}
use Rattle.plan_meaning.specs.Checks.{is_none}
use Rattle.plan_meaning.specs.Functions.{all_differ}
use Rattle.plan_meaning.specs.JoinChecks.{are_paired, conditions, fits_kind, is_built_join}
use Rattle.plan_meaning.specs.Relating.{Asked, all, Holding, NarrowColumns, AgreeOn}
use Rattle.plan_meaning.specs.Steps.{OnTwo}
use Rattle.plan_meaning.proofs.JoinLemmas.{distinct_differ, JoinGood}
use Rattle.plan_pruned.proofs.SideLemmas.{good_join, SameLeaves, same_known, holding_same, same_keys}
use Rattle.plan_meaning.proofs.Related.{FramesRelated, LocalTo}
use Rattle.plan_pruned.proofs.JoinLocal.{agree_of, same_pairs}

-- such a join fills no keys, and has no condition

fills_none : (how : JoinType) (c : JoinCoalesce) → has_right how ≡ false → fills how c ≡ false
fills_none Semi c e = refl
fills_none Anti c e = refl
fills_none how c e = cc

shows_right : (how : JoinType) (pairs : ℕ) (e : Named) → fits_kind how pairs (Some (condition e)) ≡ true → has_right how ≡ true
shows_right Cross pairs e f = refl
shows_right how pairs e f = absurd (cc)

none_out : (keys names : List Name) (args : JoinArgs) → has_right args.how ≡ false → right_out args keys names ≡ []
none_out keys [] args e = refl
none_out keys (a ∷ names) args e = ap (λ (b : Bool). cond (b && not ((coalesces args.how args.coalesce && not (drops_left args.how)) && has keys a)) (a ∷ right_out args keys names) (right_out args keys names)) e ∙ none_out keys names args e

pub no_right : (args : JoinArgs) (keys : List Name) (t : Columns) → has_right args.how ≡ false → right_rest args keys t ≡ []
no_right args keys t e = ap (λ (b : Bool). cond b (cond (coalesces args.how args.coalesce && not (drops_left args.how)) (but_for keys t) t) []) e

module _ (left_on right_on : List Named) (stored : Columns) (told : Told) (s t r2 : Columns) (g : JoinGood left_on right_on stored told s t) (once2 : HasDistinctNames r2) (hides : has_right told.args.how ≡ false) where
  abbrev own : JoinArgs
  own = told.args

  abbrev lk : List Name
  lk = column_keys left_on

  abbrev rk : List Name
  rk = column_keys right_on

  abbrev read : List Name
  read = with_names [] (all_leaves right_on)

  columns-same : join_columns own lk rk s r2 ≡ join_columns own lk rk s t
  columns-same = ap (with_right (suffix_of own) (left_rest own lk s)) (no_right own rk r2 hides ∙ sym (no_right own rk t hides))

  module _ (h : Holding read r2 t) where
    leaves-same : SameLeaves right_on r2 t
    leaves-same b i = holding_same read r2 t h b (adds_names [] (all_leaves right_on) b i)

    left_only : JoinGood left_on right_on stored told s r2
    left_only = record {
      built = g.built;
      left_formed = g.left_formed;
      right_formed = g.right_formed;
      condition_formed = g.condition_formed;
      left_known = g.left_known;
      right_known = same_known right_on r2 t leaves-same g.right_known;
      condition_known = subst (λ (u : Columns). AllByRecursion (λ (e : Named). all_known (leaves e.expr) u ≡ true) (conditions told.options)) (sym columns-same) g.condition_known;
      left_typed = g.left_typed;
      pairs = same_pairs own.how (suc (length left_on)) s s r2 t left_on right_on (λ b i. refl) leaves-same g.pairs;
      condition_typed = subst (λ (u : Columns). AllByRecursion (λ (e : Named). is_type (expr_type e.expr u) types.Boolean ≡ true) (conditions told.options)) (sym columns-same) g.condition_typed;
      left_differ = g.left_differ;
      right_differ = distinct_differ (names_of r2) once2;
      differ = ap (λ (u : Columns). all_differ (names_of u)) columns-same ∙ g.differ;
      same = ap (same_columns stored) columns-same ∙ g.same;
      named = g.named;
    }

    module _ (f g1 k : Frame) (ag : Agree read g1 k) where
      cells-same : key_cells right_on g1 ≡ key_cells right_on k
      cells-same = same_keys right_on g1 k (agree_fewer (all_leaves right_on) read g1 k (λ b i. adds_names [] (all_leaves right_on) b i) ag)

      shown : (e : Named) → told.options ≡ Some (condition e) → has_right own.how ≡ true
      unfolding is_built_join
      shown e is = shows_right own.how (length left_on) e (ap (fits_kind own.how (length left_on)) (sym is) ∙ (and_parts (are_paired own.how (length left_on) (length right_on)) (fits_kind own.how (length left_on) told.options) (and_parts (is_none own.slice) (are_paired own.how (length left_on) (length right_on) && fits_kind own.how (length left_on) told.options) g.built).1).1)

      test-is : (o : Option KindOptions) → told.options ≡ o → matches_by told left_on right_on f g1 o ≡ matches_by told left_on right_on f k o
      test-is None is = ap (keys_match own.join_nulls (key_cells left_on f)) cells-same
      test-is (Some (inequalities o)) is = ap (keys_meet (operators o) (key_cells left_on f)) cells-same
      test-is (Some (condition e)) is = absurd (both_ways (has_right own.how) hides (shown e is))

      lefts-same : (c : _) (ps : List RowPair) (ns : List Name) → map (side_column (filler own lk rk) c ps f g1) (map (λ (a : Name). (sides.Left, a)) ns) ≡ map (side_column (filler own lk rk) c ps f k) (map (λ (a : Name). (sides.Left, a)) ns)
      lefts-same c ps [] = refl
      lefts-same c ps (a ∷ ns) = ap₂ (λ (x : Column) (xs : List Column). x ∷ xs) (unfilled (filler own lk rk a) (ap (λ (b : Bool). cond b (partner lk rk a) None) (fills_none own.how own.coalesce hides))) (lefts-same c ps ns)
        where
          unfilled : (o : Option Name) → o ≡ None → side_column (λ _. o) c ps f g1 (sides.Left, a) ≡ side_column (λ _. o) c ps f k (sides.Left, a)
          unfilled None e = refl
          unfilled (Some b) e = cc

      frames-same : (ps : List RowPair) → joined own lk rk ps f g1 ≡ joined own lk rk ps f k
      frames-same ps =
          let ns = column_names f.columns in
          let c = call own (left_out own lk ns) in
          let shape : (x : Frame) → joined own lk rk ps f x ≡ record { height = length ps; columns = map (side_column (filler own lk rk) c ps f x) (map (λ (a : Name). (sides.Left, a)) (left_out own lk ns) ++ []) } = λ x.
          ap (λ (rs : List Name). let y : Frame = record { height = length ps; columns = map (side_column (filler own lk rk) c ps f x) (map (λ (a : Name). (sides.Left, a)) (left_out own lk ns) ++ map (λ (a : Name). (sides.Right, a)) rs) } in y) (none_out rk (column_names x.columns) own hides) in
          shape g1
          ∙ ap (λ (cs : List Column). let y : Frame = record { height = length ps; columns = cs } in y)
          (ap (map (side_column (filler own lk rk) c ps f g1)) (append-nil (map (λ (a : Name). (sides.Left, a)) (left_out own lk ns)))
          ∙ lefts-same c ps (left_out own lk ns)
          ∙ sym (ap (map (side_column (filler own lk rk) c ps f k)) (append-nil (map (λ (a : Name). (sides.Left, a)) (left_out own lk ns)))))
          ∙ sym (shape k)

      joins-same : (x : Frame) → Joins told left_on right_on f g1 x → Joins told left_on right_on f k x
      joins-same x st = (
        st.0,
        picked st.0 st.1,
        st.2 ∙ frames-same st.0,
      )
        where
          picked : (ps : List RowPair) → ArePicked own.how own.maintain_order (join_test told left_on right_on f g1) f.height g1.height ps → ArePicked own.how own.maintain_order (join_test told left_on right_on f k) f.height k.height ps
          picked ps p = subst (λ (n : ℕ). ArePicked own.how own.maintain_order (join_test told left_on right_on f k) f.height n ps) ag.height
              (subst (λ (u : Test). ArePicked own.how own.maintain_order u f.height g1.height ps) (test-is told.options refl) p)

    -- a right side that has what the keys read is enough
    pub left_local : LocalTo Asked NarrowColumns AgreeOn (join left_on right_on stored told) (join left_on right_on stored told) (all ∷ set_of read ∷ []) all (s ∷ r2 ∷ []) (s ∷ t ∷ [])
    left_local = record {
      good = good_join left_on right_on stored told s r2 left_only;
      schema = columns-same;
      fits = λ c k. tt;
      step = λ c fs gs x k hr has ag st. whole_step fs gs x hr has ag st;
    }
      where
        whole_step : (fs gs : List Frame) (x : Frame) → HaveSchemas fs (s ∷ r2 ∷ []) → HaveSchemas gs (s ∷ t ∷ []) → FramesRelated Asked NarrowColumns AgreeOn (all ∷ set_of read ∷ []) fs gs → OnTwo fs (λ u v. Joins told left_on right_on u v x) → (y : Frame) × OnTwo gs (λ u v. Joins told left_on right_on u v y) × (x ≡ y)
        whole_step (f1 ∷ g1 ∷ []) (f ∷ k ∷ []) x hr has ag st = (x, joins-same f g1 k (agree_of read g1 k ag.1.0) x (subst (λ (u : Frame). Joins told left_on right_on u g1 x) ag.0 st), refl)
        whole_step [] gs x hr has ag st = absurd hr
        whole_step (f1 ∷ []) gs x hr has ag st = absurd hr.1
        whole_step (f1 ∷ g1 ∷ k1 ∷ fs) gs x hr has ag st = absurd hr.1.1
        whole_step (f1 ∷ g1 ∷ []) [] x hr has ag st = absurd has
        whole_step (f1 ∷ g1 ∷ []) (f ∷ []) x hr has ag st = absurd has.1
        whole_step (f1 ∷ g1 ∷ []) (f ∷ k ∷ l ∷ gs) x hr has ag st = absurd has.1.1

-- over sides that are the same
pub same_local : (left_on right_on : List Named) (stored : Columns) (told : Told) (s t : Columns) → JoinGood left_on right_on stored told s t → LocalTo Asked NarrowColumns AgreeOn (join left_on right_on stored told) (join left_on right_on stored told) (all ∷ all ∷ []) all (s ∷ t ∷ []) (s ∷ t ∷ [])
same_local left_on right_on stored told s t g = record {
  good = good_join left_on right_on stored told s t g;
  schema = refl;
  fits = λ c k. tt;
  step = λ c fs gs x k hr has ag st. same_step fs gs x ag st;
}
  where
    same_step : (fs gs : List Frame) (x : Frame) → FramesRelated Asked NarrowColumns AgreeOn (all ∷ all ∷ []) fs gs → OnTwo fs (λ u v. Joins told left_on right_on u v x) → (y : Frame) × OnTwo gs (λ u v. Joins told left_on right_on u v y) × (x ≡ y)
    same_step (f1 ∷ g1 ∷ []) (f ∷ k ∷ []) x ag st = (x, subst (λ (u : Frame). Joins told left_on right_on f u x) ag.1.0 (subst (λ (u : Frame). Joins told left_on right_on u g1 x) ag.0 st), refl)
    same_step fs gs x ag st = absurd (search st)
