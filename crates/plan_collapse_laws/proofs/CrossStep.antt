-- A join with filters over it that keeps what a cross join keeps under its run refines it.
use Rattle.std.proofs.Common.{◌≡◌, ◌∙◌, ◌<◌, ℕ, true, List, [], ◌∷◌, refl, sym, ap, subst}
use Rattle.std.specs.List.{AllByRecursion}
use Rattle.plan_core.specs.Columns.{Columns}
use Rattle.plan_options.specs.declared.join.MaintainOrderJoin.{MaintainOrderJoin}
use Rattle.plan_options.specs.Join.{suffix_of}
use Rattle.plan_tree.specs.Rose.{Roses, rose, no_roses, more}
use Rattle.plan_expr.specs.Exprs.{Expr, Named}
use Rattle.plan_join.specs.Told.{Told, column_keys}
use Rattle.plan_ir.specs.Plans.{Op, join, Plan}
use Rattle.plan_frame.specs.Frames.{Frame, HasSchema}
use Rattle.plan_join.specs.Pairs.{both}
use Rattle.plan_join.specs.Orders.{ArePicked}
use Rattle.plan_join.specs.Joined.{joined}
use Rattle.plan_join.specs.Matching.{Joins, join_test}
use Rattle.plan_meaning.specs.JoinChecks.{is_elementwise}
use Rattle.plan_meaning.specs.Typing.{schema, schema_by, schemas}
use Rattle.plan_meaning.specs.Contents.{Contents, Fits}
use Rattle.plan_meaning.specs.Steps.{IsValid, May, MayAll, OnTwo}
use Rattle.plan_meaning.specs.Relating.{Refines}
use Rattle.plan_meaning.proofs.JoinLemmas.{JoinGood}
use Rattle.plan_meaning.proofs.Runs.{may_has, valid_runs}
use Rattle.plan_collapse_laws.specs.FilteredPairs.{GivesPairs, more_by}
use Rattle.plan_collapse_laws.specs.Collapsed.{under}
use Rattle.plan_collapse_laws.specs.FilteredFrames.{PutsOutAll, all_hold, chain}
use Rattle.plan_collapse_laws.proofs.JoinFrames.{collapsed-frames}
use Rattle.plan_collapse_laws.proofs.Filters.{FiltersGood, fits_under, may_under, under_fits, under_may, under_schema, under_valid, valid_under}
use Rattle.plan_collapse_laws.specs.TakenKeys.{exprs_of}
use Rattle.plan_collapse_laws.proofs.JoinChecked.{same_wide}
use Rattle.plan_pruned.proofs.SideLemmas.{good_join}

exprs_row_wise : (es : List Named) → AllByRecursion (λ (e : Named). is_elementwise e.expr ≡ true) es → AllByRecursion (λ (e : Expr). is_elementwise e ≡ true) (exprs_of es)
exprs_row_wise [] h = tt
exprs_row_wise (e ∷ es) h = (h.0, exprs_row_wise es h.1)

module _ (stored : Columns) (told after : Told) (left_on right_on run rest : List Named) (n : Unit {0}) (op : Op) (ts : Roses (Unit {0}) Op) (m : Unit {0}) (o : Op) (us : Roses (Unit {0}) Op) where
  abbrev inputs : Roses (Unit {0}) Op
  inputs = more (rose n op ts) (more (rose m o us) no_roses)

  abbrev s : Columns
  s = schema_by op (schemas ts)

  abbrev t : Columns
  t = schema_by o (schemas us)

  abbrev given : Plan
  given = rose tt (join [] [] stored told) inputs

  abbrev new : Plan
  new = rose tt (join left_on right_on stored after) inputs

  pub step_refines : IsValid (under run given) → PutsOutAll told.args → PutsOutAll after.args → suffix_of after.args ≡ suffix_of told.args → after.args.maintain_order ≡ told.args.maintain_order
      → GivesPairs told.args.how → GivesPairs after.args.how
      → JoinGood left_on right_on stored after s t → FiltersGood (schema given) rest
      → AllByRecursion (λ (e : Named). is_elementwise e.expr ≡ true) run → AllByRecursion (λ (e : Named). is_elementwise e.expr ≡ true) rest
      → ((f g : Frame) → HasSchema f s → HasSchema g t → (i j : ℕ) → i < f.height → j < g.height → more_by (join_test told [] [] f g) (all_hold told.args [] [] f g (exprs_of run)) i j ≡ more_by (join_test after left_on right_on f g) (all_hold told.args [] [] f g (exprs_of rest)) i j)
      → Refines (under rest new) (under run given)
  step_refines v all kept suffix order a b good filters wr ws same =
      let below = (under_valid run given v).0 in
      let wide : schema new ≡ schema given = same_wide told.args after.args all kept suffix (column_keys left_on) (column_keys right_on) s t in
      let now : IsValid (under rest new) = valid_under rest new (good_join left_on right_on stored after s t good, below.1) (subst (λ (cs : Columns). FiltersGood cs rest) (sym wide) filters) in
      let fit : (c : Contents) → Fits c (under run given) → Fits c (under rest new) = λ c k. fits_under c rest new (under_fits c run given k) in
      record {
        valid = now;
        schema = under_schema rest new ∙ wide ∙ sym (under_schema run given);
        fits = fit;
        run = λ c k. valid_runs c (under rest new) now (fit c k);
        may = λ c f k x. gives c f (under_fits c run given k) below (under_may c rest new f x);
      }
    where
      gives : (c : Contents) (f : Frame) → Fits c given → IsValid given → (g : Frame) × May c new g × (f ≡ chain (exprs_of rest) g) → May c (under run given) f
      gives c f k below x = sides x.1.0 x.1.1 x.1.2
        where
          along : (g h : Frame) → May c (rose n op ts) g → May c (rose m o us) h → Joins after left_on right_on g h x.0 → May c (under run given) f
          along g h p q st =
              let y = collapsed-frames told.args after.args all kept suffix (column_keys left_on) (column_keys right_on) g h (both 0 0) told.args.how after.args.how told.args.maintain_order (join_test told [] [] g h) (join_test after left_on right_on g h) (exprs_of run) (exprs_of rest) a b (exprs_row_wise run wr) (exprs_row_wise rest ws)
              (same g h (may_has c (rose n op ts) g (below.1.0, below.1.1) (k.1.0, k.1.1) p) (may_has c (rose m o us) h (below.1.2.0, below.1.2.1) (k.1.2.0, k.1.2.1) q)) st.0
              (subst (λ (w : MaintainOrderJoin). ArePicked after.args.how w (join_test after left_on right_on g h) g.height h.height st.0) order st.1) in
              subst (May c (under run given)) (sym (x.2 ∙ ap (chain (exprs_of rest)) st.2 ∙ y.2))
              (may_under c run given (joined told.args [] [] y.0 g h) (g ∷ h ∷ [], (p, (q, tt)), (y.0, y.1, refl)))

          sides : (gs : List Frame) → MayAll c inputs gs → OnTwo gs (λ (g h : Frame). Joins after left_on right_on g h x.0) → May c (under run given) f
          sides [] p st = absurd p
          sides (g ∷ []) p st = absurd p.1
          sides (g ∷ h ∷ []) p st = along g h p.0 p.1.0 st
          sides (g ∷ h ∷ k ∷ gs) p st = absurd p.1.1
