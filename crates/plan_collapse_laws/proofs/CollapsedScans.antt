-- A collapsed plan keeps the scans of the plan.
use Rattle.std.proofs.Common.{◌≡◌, ◌∙◌, ◌++◌, Bool, true, false, List, [], ◌∷◌, map, Option, Some, None, refl, sym, ap, ap₂, subst}
use Rattle.std.proofs.lemmas.List.{append-nil}
use Rattle.std.proofs.lemmas.Bool.{both_ways}
use Rattle.plan_core.specs.Columns.{Columns}
use Rattle.plan_tree.specs.Rose.{Roses, rose, no_roses, more}
use Rattle.plan_expr.specs.Exprs.{Expr, Named}
use Rattle.plan_join.specs.Told.{Told}
use Rattle.plan_ir.specs.Plans.{Op, filter, join, Plan}
use Rattle.plan_meaning.specs.JoinChecks.{conditions, is_elementwise}
use Rattle.plan_meaning.specs.Scans.{KeepScans, Keeps, own_scan, scans, scans_in}
use Rattle.plan_meaning.specs.Steps.{IsValid}
use Rattle.plan_meaning.specs.Typing.{AllValid}
use Rattle.plan_meaning.proofs.Keeping.{keeps_refl}
use Rattle.plan_schema.specs.Stored.{stored_all}
use Rattle.plan_collapse_laws.specs.TakenKeys.{and_all, told_now, left_keys, right_keys}
use Rattle.plan_collapse_laws.specs.Collapsed.{at_filter, at_join, collapsed, collapsed_all, collapsed_at, collapsed_cross, collapsed_under, filtered_by, first_under, keeping, under}
use Rattle.plan_collapse_laws.specs.Sites.{is_cross}
use Rattle.plan_collapse_laws.proofs.NodeKinds.{Kind, a_filter, a_join, another, cross_cases, kind_of}

under_scans : (run : List Named) (p : Plan) → scans (under run p) ≡ scans p
under_scans [] p = refl
under_scans (e ∷ run) p = append-nil (scans (under run p)) ∙ under_scans run p

filtered_scans : (o : Option Expr) (p : Plan) → scans (filtered_by o p) ≡ scans p
filtered_scans None p = refl
filtered_scans (Some e) p = append-nil (scans p)

cross_scans : (run : List Named) (stored : Columns) (told : Told) (ss : List Columns) (inputs : Roses (Unit {0}) Op) → scans (collapsed_cross run stored told ss inputs) ≡ scans_in inputs
cross_scans run stored told ss inputs = cross_cases (λ (q : Roses (Unit {0}) Op → Plan). scans (q inputs) ≡ scans_in inputs) stored told
    (λ how options ks rest. filtered_scans (and_all (rest ++ map (λ (e : Named). e.expr) (conditions told.options))) (rose tt (join (left_keys ks) (right_keys ks) stored (told_now (keeping how told.args) options told)) inputs))
    (λ e. refl)
    run ss (under_scans run (rose tt (join [] [] stored told) inputs))

mutual
  pub under_run_scans : (p : Plan) (run : List Named) → IsValid p → scans (collapsed_under p run) ≡ scans p
  under_run_scans (rose n op ts) run v = at op (kind_of op) (all_scans ts v.1) (λ e x r. first_scans ts e r x) v
    where
      at : (o : Op) → Kind o → scans_in (collapsed_all ts) ≡ scans_in ts → ((e : Named) → IsValid (rose tt (filter e) ts) → (r : List Named) → scans (first_under ts r) ≡ scans_in ts) → IsValid (rose tt o ts) → scans (collapsed_at o run (stored_all ts) (collapsed_all ts) (λ more_run. first_under ts more_run)) ≡ own_scan o ++ scans_in ts
      at _ (a_filter e) all first x = filters (is_elementwise e.expr)
        where
          filters : (b : Bool) → scans (at_filter b run e (collapsed_all ts) (λ more_run. first_under ts more_run)) ≡ scans_in ts
          filters true = first e x (run ++ e ∷ [])
          filters false = under_scans run (rose tt (filter e) (collapsed_all ts)) ∙ all
      at _ (a_join left_on right_on stored told) all first x = joins (is_cross told.args.how)
        where
          joins : (b : Bool) → scans (at_join b run left_on right_on stored told (stored_all ts) (collapsed_all ts)) ≡ scans_in ts
          joins true = cross_scans run stored told (stored_all ts) (collapsed_all ts) ∙ all
          joins false = under_scans run (rose tt (join left_on right_on stored told) (collapsed_all ts)) ∙ all
      at _ (another o k) all first x =
          ap scans (k.stays run (stored_all ts) (collapsed_all ts) (λ more_run. first_under ts more_run))
          ∙ under_scans run (rose tt o (collapsed_all ts))
          ∙ ap (λ (os : List Op). own_scan o ++ os) all

  all_scans : (ts : Roses (Unit {0}) Op) → AllValid ts → scans_in (collapsed_all ts) ≡ scans_in ts
  all_scans no_roses v = refl
  all_scans (more (rose n op ts) rest) v = ap₂ (λ (xs ys : List Op). xs ++ ys) (under_run_scans (rose n op ts) [] (v.0, v.1)) (all_scans rest v.2)

  -- a valid filter has one input
  first_scans : (ts : Roses (Unit {0}) Op) (e : Named) (r : List Named) → IsValid (rose tt (filter e) ts) → scans (first_under ts r) ≡ scans_in ts
  first_scans no_roses e r v = absurd (both_ways false refl v.0.0)
  first_scans (more (rose n op ts) no_roses) e r v = under_run_scans (rose n op ts) r (v.1.0, v.1.1) ∙ sym (append-nil (scans (rose n op ts)))
  first_scans (more (rose n op ts) (more (rose m o us) rest)) e r v = absurd (both_ways false refl v.0.0)

pub collapsed_keeps : (p : Plan) → IsValid p → Keeps (collapsed p) p
collapsed_keeps p v = subst (λ (os : List Op). KeepScans os (scans p)) (sym (under_run_scans p [] v)) (keeps_refl p)
