-- A plan none of whose cross joins has a run is collapsed to itself.
use Rattle.std.proofs.Common.{◌≡◌, ◌∙◌, ◌++◌, Bool, true, false, not, ◌&&◌, List, [], ◌∷◌, refl, sym, ap, ap₂, subst}
use Rattle.std.specs.Prelude.{if◌then◌else◌}
use Rattle.std.proofs.lemmas.Bool.{both_ways}
use Rattle.plan_core.specs.Columns.{Columns}
use Rattle.plan_tree.specs.Rose.{Roses, rose, no_roses, more}
use Rattle.plan_expr.specs.Exprs.{Named}
use Rattle.plan_join.specs.Told.{Told}
use Rattle.plan_ir.specs.Plans.{Op, filter, join, Plan}
use Rattle.plan_meaning.specs.Checks.{is_empty}
use Rattle.plan_meaning.specs.JoinChecks.{is_elementwise}
use Rattle.plan_meaning.specs.Steps.{IsValid}
use Rattle.plan_meaning.specs.Typing.{AllValid, schema_by, schemas}
use Rattle.plan_meaning.proofs.JoinLemmas.{join_good}
use Rattle.plan_schema.specs.Stored.{stored_all}
use Rattle.plan_collapse_laws.specs.Sites.{JoinSite, is_cross, join_sites, own_site, run_below, AreIdle}
use Rattle.plan_collapse_laws.specs.Collapsed.{at_filter, at_join, collapsed, collapsed_all, collapsed_at, collapsed_cross, collapsed_under, first_under, under}
use Rattle.plan_collapse_laws.proofs.Collapsed.{cross_how, no_keys}
use Rattle.plan_collapse_laws.proofs.Filters.{one, under_last}
use Rattle.plan_collapse_laws.proofs.NodeKinds.{Kind, a_filter, a_join, another, kind_of}

idle_front : (xs ys : List JoinSite) → AreIdle (xs ++ ys) → AreIdle xs
idle_front [] ys h = tt
idle_front (x ∷ xs) ys h = (h.0, idle_front xs ys h.1)

idle_back : (xs ys : List JoinSite) → AreIdle (xs ++ ys) → AreIdle ys
idle_back [] ys h = h
idle_back (x ∷ xs) ys h = idle_back xs ys h.1

run_empty : (run : List Named) → not (is_empty run) ≡ false → run ≡ []
run_empty [] e = refl
run_empty (x ∷ run) e = cc

-- a cross join has two inputs and no keys
cross_stays : (run left_on right_on : List Named) (stored : Columns) (told : Told) (ss : List Columns) (ts qs : Roses (Unit {0}) Op) → is_cross told.args.how ≡ true → IsValid (rose tt (join left_on right_on stored told) ts) → (is_cross told.args.how && not (is_empty run)) ≡ false → qs ≡ ts → collapsed_cross run stored told ss qs ≡ under run (rose tt (join left_on right_on stored told) ts)
cross_stays run left_on right_on stored told ss no_roses qs c v h e = absurd (both_ways false refl v.0.0)
cross_stays run left_on right_on stored told ss (more (rose n op ts) no_roses) qs c v h e = absurd (both_ways false refl v.0.0)
cross_stays run left_on right_on stored told ss (more (rose n op ts) (more (rose m o us) (more (rose k u xs) rest))) qs c v h e = absurd (both_ways false refl v.0.0)
cross_stays run left_on right_on stored told ss (more (rose n op ts) (more (rose m o us) no_roses)) qs c v h e =
    let none = no_keys left_on right_on stored told (schema_by op (schemas ts)) (schema_by o (schemas us)) (join_good left_on right_on stored told (schema_by op (schemas ts)) (schema_by o (schemas us)) v.0) (cross_how told.args.how c) in
    let empty = run_empty run (sym (ap (λ (b : Bool). b && not (is_empty run)) c) ∙ h) in
    ap (λ (r : List Named). collapsed_cross r stored told ss qs) empty
    ∙ ap (λ (is : Roses (Unit {0}) Op). rose tt (join [] [] stored told) is) e
    ∙ sym (ap (λ (r : List Named). under r (rose tt (join left_on right_on stored told) (more (rose n op ts) (more (rose m o us) no_roses)))) empty
    ∙ ap₂ (λ (l r : List Named). rose tt (join l r stored told) (more (rose n op ts) (more (rose m o us) no_roses))) none.0 none.1)

mutual
  pub idle_under : (p : Plan) (run : List Named) → IsValid p → AreIdle (join_sites (one p) run) → collapsed_under p run ≡ under run p
  idle_under (rose n op ts) run v h = at op (kind_of op) v (idle_front (own_site op run (schemas ts)) (join_sites ts (run_below op run) ++ []) h) (λ k. all_idle ts v.1 k) (idle_front (join_sites ts (run_below op run)) [] (idle_back (own_site op run (schemas ts)) (join_sites ts (run_below op run) ++ []) h)) (λ e x k. first_idle ts e run x k)
    where
      at : (o : Op) → Kind o → IsValid (rose tt o ts) → AreIdle (own_site o run (schemas ts)) → (AreIdle (join_sites ts []) → collapsed_all ts ≡ ts) → AreIdle (join_sites ts (run_below o run)) → ((e : Named) → IsValid (rose tt (filter e) ts) → AreIdle (join_sites ts (run ++ e ∷ [])) → first_under ts (run ++ e ∷ []) ≡ under run (rose tt (filter e) ts)) → collapsed_at o run (stored_all ts) (collapsed_all ts) (λ more_run. first_under ts more_run) ≡ under run (rose tt o ts)
      at _ (a_filter e) x own all below first = filters (is_elementwise e.expr) below
        where
          filters : (b : Bool) → AreIdle (join_sites ts (if b then run ++ e ∷ [] else [])) → at_filter b run e (collapsed_all ts) (λ more_run. first_under ts more_run) ≡ under run (rose tt (filter e) ts)
          filters true k = first e x k
          filters false k = ap (λ (qs : Roses (Unit {0}) Op). under run (rose tt (filter e) qs)) (all k)
      at _ (a_join left_on right_on stored told) x own all below first = joins (is_cross told.args.how) refl
        where
          joins : (b : Bool) → is_cross told.args.how ≡ b → at_join b run left_on right_on stored told (stored_all ts) (collapsed_all ts) ≡ under run (rose tt (join left_on right_on stored told) ts)
          joins true c = cross_stays run left_on right_on stored told (stored_all ts) ts (collapsed_all ts) c x own.0 (all below)
          joins false c = ap (λ (qs : Roses (Unit {0}) Op). under run (rose tt (join left_on right_on stored told) qs)) (all below)
      at _ (another o k) x own all below first =
          k.stays run (stored_all ts) (collapsed_all ts) (λ more_run. first_under ts more_run)
          ∙ ap (λ (qs : Roses (Unit {0}) Op). under run (rose tt o qs)) (all (subst (λ (r : List Named). AreIdle (join_sites ts r)) (k.below run) below))

  all_idle : (ts : Roses (Unit {0}) Op) → AllValid ts → AreIdle (join_sites ts []) → collapsed_all ts ≡ ts
  all_idle no_roses v h = refl
  all_idle (more (rose n op ts) rest) v h = ap₂ (λ (q : Plan) (qs : Roses (Unit {0}) Op). more q qs)
      (idle_under (rose n op ts) [] (v.0, v.1) (idle_join (own_site op [] (schemas ts)) (join_sites ts (run_below op [])) (join_sites rest []) h))
      (all_idle rest v.2 (idle_back (join_sites ts (run_below op [])) (join_sites rest []) (idle_back (own_site op [] (schemas ts)) (join_sites ts (run_below op []) ++ join_sites rest []) h)))
    where
      idle_join : (xs ys zs : List JoinSite) → AreIdle (xs ++ (ys ++ zs)) → AreIdle (xs ++ (ys ++ []))
      idle_join [] [] zs k = tt
      idle_join [] (y ∷ ys) zs k = (k.0, idle_join [] ys zs k.1)
      idle_join (x ∷ xs) ys zs k = (k.0, idle_join xs ys zs k.1)

  first_idle : (ts : Roses (Unit {0}) Op) (e : Named) (run : List Named) → IsValid (rose tt (filter e) ts) → AreIdle (join_sites ts (run ++ e ∷ [])) → first_under ts (run ++ e ∷ []) ≡ under run (rose tt (filter e) ts)
  first_idle no_roses e run v h = absurd (both_ways false refl v.0.0)
  first_idle (more (rose n op ts) no_roses) e run v h = idle_under (rose n op ts) (run ++ e ∷ []) (v.1.0, v.1.1) h ∙ under_last run e (rose n op ts)
  first_idle (more (rose n op ts) (more (rose m o us) rest)) e run v h = absurd (both_ways false refl v.0.0)

-- the plan itself, where no cross join of it has a run
pub collapsed_idle : (p : Plan) → IsValid p → AreIdle (join_sites (one p) []) → collapsed p ≡ p
collapsed_idle p v h = idle_under p [] v h
