-- A collapsed plan refines the plan.
use Rattle.std.proofs.Common.{◌≡◌, ◌∙◌, ◌++◌, ◌==◌, Bool, true, false, not, ◌&&◌, List, [], ◌∷◌, length, refl, sym, ap, ap₂, subst}
use Rattle.std.specs.List.{AllByRecursion}
use Rattle.std.proofs.lemmas.Bool.{and_parts as parts_of, both_ways}
use Rattle.plan_core.specs.Columns.{Columns}
use Rattle.plan_options.specs.declared.join.JoinType.{JoinType}
use Rattle.plan_options.specs.declared.join.JoinType.TheVariants.{Cross}
use Rattle.plan_tree.specs.Rose.{Roses, rose, no_roses, more}
use Rattle.plan_expr.specs.Exprs.{Named}
use Rattle.plan_join.specs.Told.{Told}
use Rattle.plan_ir.specs.Plans.{Op, filter, join, Plan}
use Rattle.plan_meaning.specs.Checks.{is_none}
use Rattle.plan_meaning.specs.JoinChecks.{are_paired, fits_kind, is_built_join, is_elementwise}
use Rattle.plan_meaning.specs.Typing.{AllValid, schema_by, schemas}
use Rattle.plan_meaning.specs.Steps.{IsValid}
use Rattle.plan_meaning.specs.Relating.{Refines, EachRefines}
use Rattle.plan_meaning.proofs.JoinLemmas.{JoinGood, join_good}
use Rattle.plan_meaning.proofs.Refining.{refines_node, refines_trans}
use Rattle.plan_schema.specs.Stored.{stored_all}
use Rattle.plan_schema.proofs.StoredLemmas.{stored-schemas}
use Rattle.plan_meaning.proofs.KeptExprs.{all_append}
use Rattle.plan_collapse_laws.specs.Collapsed.{at_filter, at_join, collapsed, collapsed_all, collapsed_at, collapsed_cross, collapsed_under, first_under, under}
use Rattle.plan_collapse_laws.specs.Sites.{is_cross}
use Rattle.plan_collapse_laws.proofs.CrossRefines.{cross_refines, not_zero}
use Rattle.plan_collapse_laws.proofs.Filters.{under_last, under_refines, under_valid}
use Rattle.plan_collapse_laws.proofs.NodeKinds.{Kind, a_filter, a_join, another, kind_of}

-- a run of filters, each of which works row by row
abbrev pub IsRun : List Named → Type 0
IsRun run = AllByRecursion (λ (e : Named). is_elementwise e.expr ≡ true) run

pub cross_how : (how : JoinType) → is_cross how ≡ true → how ≡ Cross
cross_how Cross e = refl
cross_how how e = cc

none_of : {X : Type 0} (xs : List X) → (length xs == 0) ≡ true → xs ≡ []
none_of [] e = refl
none_of (x ∷ xs) e = no (ap not (sym e) ∙ not_zero (length xs))
  where
    no : false ≡ true → x ∷ xs ≡ []
    no q = cc

-- a cross join has no keys
pub no_keys : (left_on right_on : List Named) (stored : Columns) (told : Told) (s t : Columns) → JoinGood left_on right_on stored told s t → told.args.how ≡ Cross → (left_on ≡ []) × (right_on ≡ [])
unfolding is_built_join
no_keys left_on right_on stored told s t g cross =
    let kinds = parts_of (is_none told.args.slice) (are_paired told.args.how (length left_on) (length right_on) && fits_kind told.args.how (length left_on) told.options) g.built in
    let paired = parts_of (are_paired told.args.how (length left_on) (length right_on)) (fits_kind told.args.how (length left_on) told.options) kinds.1 in
    let zeros = parts_of (length left_on == 0) (length right_on == 0) (sym (ap (λ (h : JoinType). are_paired h (length left_on) (length right_on)) cross) ∙ paired.0) in
    (none_of left_on zeros.0, none_of right_on zeros.1)

module _ (run : List Named) (w : IsRun run) (left_on right_on : List Named) (stored : Columns) (told : Told) where
  abbrev over : Roses (Unit {0}) Op → Plan
  over ts = rose tt (join left_on right_on stored told) ts

  -- over inputs that refine two plans
  two_refine : (n : Unit {0}) (op : Op) (ts : Roses (Unit {0}) Op) (m : Unit {0}) (o : Op) (us : Roses (Unit {0}) Op) (qs : Roses (Unit {0}) Op) → told.args.how ≡ Cross → EachRefines qs (more (rose n op ts) (more (rose m o us) no_roses)) → IsValid (under run (over (more (rose n op ts) (more (rose m o us) no_roses))))
      → Refines (collapsed_cross run stored told (stored_all (more (rose n op ts) (more (rose m o us) no_roses))) qs) (under run (over (more (rose n op ts) (more (rose m o us) no_roses))))
  two_refine n op ts m o us no_roses cross h v = absurd h
  two_refine n op ts m o us (more x no_roses) cross h v = absurd h.1
  two_refine n op ts m o us (more x (more y (more z qs))) cross h v = absurd h.1.1
  two_refine n op ts m o us (more (rose i a xs) (more (rose j b ys) no_roses)) cross h v =
      let ps : Roses (Unit {0}) Op = more (rose n op ts) (more (rose m o us) no_roses) in
      let qs : Roses (Unit {0}) Op = more (rose i a xs) (more (rose j b ys) no_roses) in
      let below = (under_valid run (over ps) v).0 in
      let none = no_keys left_on right_on stored told (schema_by op (schemas ts)) (schema_by o (schemas us)) (join_good left_on right_on stored told (schema_by op (schemas ts)) (schema_by o (schemas us)) below.0) cross in
      let middle : Refines (under run (over qs)) (under run (over ps)) = under_refines run (over qs) (over ps) (λ k. refines_node (join left_on right_on stored told) qs ps k h) v in
      let bare : under run (over qs) ≡ under run (rose tt (join [] [] stored told) qs) = ap₂ (λ (l r : List Named). under run (rose tt (join l r stored told) qs)) none.0 none.1 in
      let columns : stored_all ps ≡ schemas qs = stored-schemas ps below.1 ∙ sym (ap₂ (λ (x y : Columns). x ∷ y ∷ []) h.0.schema h.1.0.schema) in
      let top = cross_refines run stored told i a xs j b ys cross (subst IsValid bare middle.valid) w in
      subst (λ (ss : List Columns). Refines (collapsed_cross run stored told ss qs) (under run (over ps))) (sym columns)
      (refines_trans (collapsed_cross run stored told (schemas qs) qs) (under run (over qs)) (under run (over ps)) (subst (λ (p : Plan). Refines (collapsed_cross run stored told (schemas qs) qs) p) (sym bare) top) middle)

  cross_all_refine : (ts qs : Roses (Unit {0}) Op) → told.args.how ≡ Cross → EachRefines qs ts → IsValid (under run (over ts)) → Refines (collapsed_cross run stored told (stored_all ts) qs) (under run (over ts))
  cross_all_refine no_roses qs cross h v = absurd (both_ways false refl (under_valid run (over no_roses) v).0.0.0)
  cross_all_refine (more (rose n op ts) no_roses) qs cross h v = absurd (both_ways false refl (under_valid run (over (more (rose n op ts) no_roses)) v).0.0.0)
  cross_all_refine (more (rose n op ts) (more (rose m o us) no_roses)) qs cross h v = two_refine n op ts m o us qs cross h v
  cross_all_refine (more (rose n op ts) (more (rose m o us) (more (rose k u xs) rest))) qs cross h v = absurd (both_ways false refl (under_valid run (over (more (rose n op ts) (more (rose m o us) (more (rose k u xs) rest)))) v).0.0.0)

mutual
  pub collapsed_refines : (p : Plan) (run : List Named) → IsRun run → IsValid (under run p) → Refines (collapsed_under p run) (under run p)
  collapsed_refines (rose n op ts) run w v = at op (kind_of op) (all_refine ts (under_valid run (rose n op ts) v).0.1) (λ e k x. first_refines ts run e w k x) v
    where
      at : (o : Op) → Kind o → EachRefines (collapsed_all ts) ts → ((e : Named) → is_elementwise e.expr ≡ true → IsValid (under run (rose tt (filter e) ts)) → Refines (first_under ts (run ++ e ∷ [])) (under run (rose tt (filter e) ts))) → IsValid (under run (rose tt o ts)) → Refines (collapsed_at o run (stored_all ts) (collapsed_all ts) (λ more_run. first_under ts more_run)) (under run (rose tt o ts))
      at _ (a_filter e) all first x = filters (is_elementwise e.expr) refl
        where
          filters : (b : Bool) → is_elementwise e.expr ≡ b → Refines (at_filter b run e (collapsed_all ts) (λ more_run. first_under ts more_run)) (under run (rose tt (filter e) ts))
          filters true q = first e q x
          filters false q = under_refines run (rose tt (filter e) (collapsed_all ts)) (rose tt (filter e) ts) (λ k. refines_node (filter e) (collapsed_all ts) ts k all) x
      at _ (a_join left_on right_on stored told) all first x = joins (is_cross told.args.how) refl
        where
          joins : (b : Bool) → is_cross told.args.how ≡ b → Refines (at_join b run left_on right_on stored told (stored_all ts) (collapsed_all ts)) (under run (rose tt (join left_on right_on stored told) ts))
          joins true q = cross_all_refine run w left_on right_on stored told ts (collapsed_all ts) (cross_how told.args.how q) all x
          joins false q = under_refines run (rose tt (join left_on right_on stored told) (collapsed_all ts)) (rose tt (join left_on right_on stored told) ts) (λ k. refines_node (join left_on right_on stored told) (collapsed_all ts) ts k all) x
      at _ (another o k) all first x = subst (λ (q : Plan). Refines q (under run (rose tt o ts))) (sym (k.stays run (stored_all ts) (collapsed_all ts) (λ more_run. first_under ts more_run)))
          (under_refines run (rose tt o (collapsed_all ts)) (rose tt o ts) (λ y. refines_node o (collapsed_all ts) ts y all) x)

  all_refine : (ts : Roses (Unit {0}) Op) → AllValid ts → EachRefines (collapsed_all ts) ts
  all_refine no_roses v = tt
  all_refine (more (rose n op ts) rest) v = (collapsed_refines (rose n op ts) [] tt (v.0, v.1), all_refine rest v.2)

  first_refines : (ts : Roses (Unit {0}) Op) (run : List Named) (e : Named) → IsRun run → is_elementwise e.expr ≡ true → IsValid (under run (rose tt (filter e) ts)) → Refines (first_under ts (run ++ e ∷ [])) (under run (rose tt (filter e) ts))
  first_refines no_roses run e w k v = absurd (both_ways false refl (under_valid run (rose tt (filter e) no_roses) v).0.0.0)
  first_refines (more p no_roses) run e w k v =
      subst (λ (q : Plan). Refines (collapsed_under p (run ++ e ∷ [])) q) (under_last run e p)
      (collapsed_refines p (run ++ e ∷ []) (all_append (λ (d : Named). is_elementwise d.expr ≡ true) run (e ∷ []) w (k, tt)) (subst IsValid (sym (under_last run e p)) v))
  first_refines (more (rose n op ts) (more (rose m o us) rest)) run e w k v = absurd (both_ways false refl (under_valid run (rose tt (filter e) (more (rose n op ts) (more (rose m o us) rest))) v).0.0.0)

-- the collapsed plan refines each valid plan
pub collapsing_refines : (p : Plan) → IsValid p → Refines (collapsed p) p
collapsing_refines p v = collapsed_refines p [] tt v
