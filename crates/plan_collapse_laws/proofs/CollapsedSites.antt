-- The joins of a collapsed plan are those of the plan, collapsed.
use Rattle.std.proofs.Common.{◌≡◌, ◌∙◌, ◌++◌, ◌≤◌, ℕ, zero, suc, min, Bool, true, false, not, ◌&&◌, List, [], ◌∷◌, length, Option, Some, None, refl, sym, ap, ap₂, subst, arith}
use Rattle.std.specs.Prelude.{if◌then◌else◌, option_map}
use Rattle.std.specs.List.{cons_option, filter_map}
use Rattle.std.proofs.lemmas.List.{append-nil, append_assoc}
use Rattle.std.proofs.lemmas.Bool.{both_ways}
use Rattle.plan_core.specs.Columns.{Columns}
use Rattle.plan_options.specs.declared.join.JoinCoalesce.TheVariants.{KeepColumns}
use Rattle.plan_options.specs.declared.join.JoinType.{JoinType}
use Rattle.plan_options.specs.declared.join.JoinType.TheVariants.{Cross, IEJoin, Inner}
use Rattle.plan_options.specs.declared.join.MaintainOrderJoin.{MaintainOrderJoin}
use Rattle.plan_options.specs.declared.join.MaintainOrderJoin.TheVariants as orders
use Rattle.plan_tree.specs.Rose.{Roses, rose, no_roses, more}
use Rattle.plan_expr.specs.Exprs.{Expr, Named}
use Rattle.plan_frame.proofs.FrameLemmas.{length-map}
use Rattle.plan_join.specs.Told.{KindOptions, condition, inequalities, Told}
use Rattle.plan_ir.specs.Plans.{Op, filter, join, Plan}
use Rattle.plan_meaning.specs.Checks.{is_empty}
use Rattle.plan_meaning.specs.JoinChecks.{conditions, is_elementwise}
use Rattle.plan_meaning.specs.Steps.{IsValid}
use Rattle.plan_meaning.specs.Typing.{AllValid, first_schema, rest_schemas, schemas}
use Rattle.plan_schema.specs.Stored.{stored_all}
use Rattle.plan_schema.proofs.StoredLemmas.{stored-schemas}
use Rattle.plan_collapse_laws.specs.CrossKeys.{Crossed, KeyPair, all_minterms, equality_keys, inequality_keys}
use Rattle.plan_meaning.proofs.KeptExprs.{all_append}
use Rattle.plan_collapse_laws.specs.Sites.{CrossCollapsed, FreeCollapsed, IsCollapsed, JoinSite, SiteCollapsed, SitesCollapsed, equalities_at, has_run, inequalities_at, is_cross, join_sites, own_site, run_below, run_with}
use Rattle.plan_collapse_laws.specs.TakenKeys.{and_all, operators_of, self_named, taken, told_now, untaken, exprs_of, left_keys, right_keys}
use Rattle.plan_collapse_laws.specs.Collapsed.{at_filter, at_join, collapsed, collapsed_all, collapsed_at, collapsed_by, collapsed_cross, collapsed_under, filtered_by, first_under, free_join, keeping, on_keys, under}
use Rattle.plan_collapse_laws.proofs.Collapsed.{IsRun, cross_how}
use Rattle.plan_collapse_laws.proofs.CollapsedNodes.{collapsed_few}
use Rattle.plan_collapse_laws.proofs.CrossRefines.{some_minterm}
use Rattle.plan_collapse_laws.proofs.Filters.{one}
use Rattle.plan_collapse_laws.proofs.NodeKinds.{Kind, a_filter, a_join, another, kind_of}

-- a join with the run above it, over inputs with these columns
abbrev site_of : (run left_on right_on : List Named) → Told → List Columns → JoinSite
site_of run left_on right_on told ss = record { run = run; left_on = left_on; right_on = right_on; told = told; left = first_schema ss; right = first_schema (rest_schemas ss) }

-- lists of sites

sites_joined : (qs ps rs ts : List JoinSite) → SitesCollapsed qs ps → SitesCollapsed rs ts → SitesCollapsed (qs ++ rs) (ps ++ ts)
sites_joined [] [] rs ts h k = k
sites_joined (q ∷ qs) (p ∷ ps) rs ts h k = (h.0, sites_joined qs ps rs ts h.1 k)
sites_joined [] (p ∷ ps) rs ts h k = absurd h
sites_joined (q ∷ qs) [] rs ts h k = absurd h

sites_last : (qs ps : List JoinSite) → SitesCollapsed qs ps → SitesCollapsed (qs ++ []) (ps ++ [])
sites_last qs ps h = sites_joined qs ps [] [] h tt

-- a run of filters stands above the joins below it
under_sites : (run : List Named) → IsRun run → (q : Plan) (r : List Named) → join_sites (one (under run q)) r ≡ join_sites (one q) (r ++ run)
under_sites [] w q r = ap (join_sites (one q)) (sym (append-nil r))
under_sites (e ∷ run) w q r =
    append-nil (join_sites (one (under run q)) (run_with r e))
    ∙ ap (λ (b : Bool). join_sites (one (under run q)) (if b then r ++ e ∷ [] else [])) w.0
    ∙ under_sites run w.1 q (r ++ e ∷ [])
    ∙ ap (join_sites (one q)) (append_assoc r (e ∷ []) run)

-- how many are taken

found_few : (keys : Expr → Option KeyPair) (es : List Expr) → length (filter_map keys es) ≤ length es
found_few keys [] = omega arith
found_few keys (e ∷ es) = at (keys e) (found_few keys es)
  where
    at : (o : Option KeyPair) → length (filter_map keys es) ≤ length es → length (cons_option o (filter_map keys es)) ≤ suc (length es)
    at None h = omega (arith, h)
    at (Some k) h = omega (arith, h)

taken_count : (n : ℕ) (keys : Expr → Option KeyPair) (es : List Expr) → length (taken n keys es) ≡ min n (length (filter_map keys es))
taken_count zero keys es = omega arith
taken_count (suc n) keys [] = omega arith
taken_count (suc n) keys (e ∷ es) = at (keys e) (taken_count (suc n) keys es) (taken_count n keys es)
  where
    at : (o : Option KeyPair) → length (taken (suc n) keys es) ≡ min (suc n) (length (filter_map keys es)) → length (taken n keys es) ≡ min n (length (filter_map keys es)) → length (elim o as (λ _. List KeyPair) [ None ↦ taken (suc n) keys es | Some k ↦ k ∷ taken n keys es ]) ≡ min (suc n) (length (cons_option o (filter_map keys es)))
    at None a b = a
    at (Some k) a b = omega (arith, b)

-- a cross join under its run

module _ (stored : Columns) (told : Told) (cross : told.args.how ≡ Cross) (run : List Named) (w : IsRun run) (left_on right_on : List Named) (s t : Columns) (qs ts : Roses (Unit {0}) Op) (below : SitesCollapsed (join_sites qs []) (join_sites ts [])) where
  abbrev before : JoinSite
  before = record { run = run; left_on = left_on; right_on = right_on; told = told; left = s; right = t }

  abbrev Fine : Plan → (equal unequal : ℕ) → Type 0
  Fine q n m = (j : JoinSite) × CrossCollapsed j before n m × (join_sites (one q) [] ≡ j ∷ (join_sites qs [] ++ []))

  -- the site of a join under a filter that there may be
  filtered_site : (o : Option Expr) (l r : List Named) (after : Told) → (j : JoinSite) × (j.told ≡ after) × (j.left_on ≡ l) × (j.right_on ≡ r) × (join_sites (one (filtered_by o (rose tt (join l r stored after) qs))) [] ≡ j ∷ (join_sites qs [] ++ []))
  filtered_site None l r after = (site_of [] l r after (schemas qs), refl, refl, refl, refl)
  filtered_site (Some e) l r after = (site_of (run_with [] (self_named e)) l r after (schemas qs), refl, refl, refl, append-nil (site_of (run_with [] (self_named e)) l r after (schemas qs) ∷ (join_sites qs [] ++ [])))

  keys_site : (how : JoinType) (options : Option KindOptions) (ks : List KeyPair) (rest : List Expr) → (j : JoinSite) × (j.told.args.how ≡ how) × (length j.left_on ≡ length ks) × (length j.right_on ≡ length ks) × (join_sites (one (on_keys how options ks rest stored told qs)) [] ≡ j ∷ (join_sites qs [] ++ []))
  keys_site how options ks rest =
      let x = filtered_site (and_all (rest ++ exprs_of (conditions told.options))) (left_keys ks) (right_keys ks) (told_now (keeping how told.args) options told) in
      (x.0, ap (λ (d : Told). d.args.how) x.1, ap length x.2 ∙ length-map (λ (k : KeyPair). self_named k.left_key) ks, ap length x.3 ∙ length-map (λ (k : KeyPair). self_named k.right_key) ks, x.4)

  same_site : (j : JoinSite) × (j.told.args.how ≡ Cross) × (join_sites (one (under run (rose tt (join [] [] stored told) qs))) [] ≡ j ∷ (join_sites qs [] ++ []))
  same_site = (site_of run [] [] told (schemas qs), cross, under_sites run w (rose tt (join [] [] stored told) qs) [])

  free_site : (order : MaintainOrderJoin) (x : Expr) (xs : List Expr) → all_minterms run ≡ x ∷ xs → (j : JoinSite) × FreeCollapsed j before order × (join_sites (one (free_join order run stored told qs)) [] ≡ j ∷ (join_sites qs [] ++ []))
  free_site orders.None x xs is =
      let some = ap (λ (es : List Expr). and_all (es ++ exprs_of (conditions told.options))) is in (
        site_of [] [] [] (told_now (record told.args { coalesce = KeepColumns }) (option_map (λ (e : Expr). condition (self_named e)) (and_all (all_minterms run ++ exprs_of (conditions told.options)))) told) (schemas qs),
        (cross, ap (λ (o : Option Expr). is_empty (conditions (option_map (λ (e : Expr). condition (self_named e)) o))) some, refl),
        refl,
      )
  free_site orders.Left x xs is = same_site
  free_site orders.Right x xs is = same_site
  free_site orders.LeftRight x xs is = same_site
  free_site orders.RightLeft x xs is = same_site

  by_site : (equal unequal : List KeyPair) (rest others : List Expr) (n m : ℕ) → length equal ≡ n → length unequal ≡ min 2 m → (x : Expr) (xs : List Expr) → all_minterms run ≡ x ∷ xs → Fine (collapsed_by equal unequal rest others run stored told qs) n m
  by_site (k ∷ ks) us rest others zero m a b x xs is = absurd (omega (arith, a))
  by_site (k ∷ ks) us rest others (suc n) m a b x xs is = let j = keys_site Inner None (k ∷ ks) rest in (j.0, (j.1, j.2 ∙ a, j.3 ∙ a), j.4)
  by_site [] us rest others (suc n) m a b x xs is = absurd (omega (arith, a))
  by_site [] (k ∷ ks) rest others zero zero a b x xs is = absurd (omega (arith, b))
  by_site [] (k ∷ ks) rest others zero (suc m) a b x xs is =
      let j = keys_site IEJoin (option_map inequalities (operators_of (k ∷ ks))) (k ∷ ks) others in
      let turned : min 2 (suc m) ≡ min (suc m) 2 = omega arith in
      (j.0, (j.1, j.2 ∙ b ∙ turned, j.3 ∙ b ∙ turned), j.4)
  by_site [] [] rest others zero (suc m) a b x xs is = absurd (omega (arith, b))
  by_site [] [] rest others zero zero a b x xs is = free_site told.args.maintain_order x xs is

whole_count : (keys : Expr → Option KeyPair) (es : List Expr) → length (taken (length es) keys es) ≡ length (filter_map keys es)
whole_count keys es = let a = taken_count (length es) keys es in let b = found_few keys es in omega (arith, a, b)

-- the site of a cross join, collapsed
cross_sites : (stored : Columns) (told : Told) (run : List Named) → IsRun run → (left_on right_on : List Named) (ss : List Columns) (qs ts : Roses (Unit {0}) Op) → is_cross told.args.how ≡ true → SitesCollapsed (join_sites qs []) (join_sites ts [])
    → SitesCollapsed (join_sites (one (collapsed_cross run stored told ss qs)) []) (site_of run left_on right_on told ss ∷ (join_sites ts [] ++ []))
cross_sites stored told [] w left_on right_on ss qs ts c below =
    let before : JoinSite = site_of [] left_on right_on told ss in
    let site : JoinSite = site_of [] [] [] told (schemas qs) in
    let idle : has_run before ≡ false = ap (λ (b : Bool). b && false) c in
    (subst (λ (b : Bool). SiteCollapsed site before b) (sym idle) refl, sites_last (join_sites qs []) (join_sites ts []) below)
cross_sites stored told (e ∷ run) w left_on right_on ss qs ts c below =
    let before : JoinSite = site_of (e ∷ run) left_on right_on told ss in
    let es = all_minterms (e ∷ run) in
    let j : Crossed = record { args = told.args; left = first_schema ss; right = first_schema (rest_schemas ss) } in
    let x = some_minterm e.expr in
    let site = by_site stored told (cross_how told.args.how c) (e ∷ run) w left_on right_on (first_schema ss) (first_schema (rest_schemas ss)) qs ts below
    (taken (length es) (equality_keys j) es) (taken 2 (inequality_keys j) es) (untaken (length es) (equality_keys j) es) (untaken 2 (inequality_keys j) es) (equalities_at before) (inequalities_at before)
    (whole_count (equality_keys j) es) (taken_count 2 (inequality_keys j) es) x.0 (x.1 ++ all_minterms run) (ap (λ (ys : List Expr). ys ++ all_minterms run) x.2) in
    let runs : has_run before ≡ true = ap (λ (b : Bool). b && true) c in
    subst (λ (sites : List JoinSite). SitesCollapsed sites (before ∷ (join_sites ts [] ++ []))) (sym site.2)
    (subst (λ (b : Bool). SiteCollapsed site.0 before b) (sym runs) site.1, sites_last (join_sites qs []) (join_sites ts []) below)

-- the sites of plans are those of each

more_sites : (q : Plan) (rest : Roses (Unit {0}) Op) (r : List Named) → join_sites (more q rest) r ≡ join_sites (one q) r ++ join_sites rest r
more_sites (rose n op ts) rest r =
    ap (λ (xs : List JoinSite). own_site op r (schemas ts) ++ (xs ++ join_sites rest r)) (sym (append-nil (join_sites ts (run_below op r))))
    ∙ sym (append_assoc (own_site op r (schemas ts)) (join_sites ts (run_below op r) ++ []) (join_sites rest r))

mutual
  pub run_sites : (p : Plan) (run : List Named) → IsRun run → IsValid p → SitesCollapsed (join_sites (one (collapsed_under p run)) []) (join_sites (one p) run)
  run_sites (rose n op ts) run w v = at op (kind_of op) (all_sites ts v.1) (λ e q x. first_sites ts run e w q x) v
    where
      at : (o : Op) → Kind o → SitesCollapsed (join_sites (collapsed_all ts) []) (join_sites ts [])
          → ((e : Named) → is_elementwise e.expr ≡ true → IsValid (rose tt (filter e) ts) → SitesCollapsed (join_sites (one (first_under ts (run ++ e ∷ []))) []) (join_sites ts (run ++ e ∷ []) ++ []))
          → IsValid (rose tt o ts) → SitesCollapsed (join_sites (one (collapsed_at o run (stored_all ts) (collapsed_all ts) (λ r. first_under ts r))) []) (own_site o run (schemas ts) ++ (join_sites ts (run_below o run) ++ []))
      at _ (a_filter e) all first x = filters (is_elementwise e.expr) refl
        where
          filters : (b : Bool) → is_elementwise e.expr ≡ b → SitesCollapsed (join_sites (one (at_filter b run e (collapsed_all ts) (λ r. first_under ts r))) []) (join_sites ts (if b then run ++ e ∷ [] else []) ++ [])
          filters true q = first e q x
          filters false q = subst (λ (sites : List JoinSite). SitesCollapsed sites (join_sites ts [] ++ []))
              (sym (under_sites run w (rose tt (filter e) (collapsed_all ts)) [] ∙ ap (λ (b : Bool). join_sites (collapsed_all ts) (if b then run ++ e ∷ [] else []) ++ []) q))
              (sites_last (join_sites (collapsed_all ts) []) (join_sites ts []) all)
      at _ (a_join left_on right_on stored told) all first x = joins (is_cross told.args.how) refl
        where
          joins : (b : Bool) → is_cross told.args.how ≡ b → SitesCollapsed (join_sites (one (at_join b run left_on right_on stored told (stored_all ts) (collapsed_all ts))) []) (site_of run left_on right_on told (schemas ts) ∷ (join_sites ts [] ++ []))
          joins true c = subst (λ (ss : List Columns). SitesCollapsed (join_sites (one (collapsed_cross run stored told ss (collapsed_all ts))) []) (site_of run left_on right_on told (schemas ts) ∷ (join_sites ts [] ++ []))) (sym (stored-schemas ts x.1))
              (cross_sites stored told run w left_on right_on (schemas ts) (collapsed_all ts) ts c all)
          joins false c = subst (λ (sites : List JoinSite). SitesCollapsed sites (site_of run left_on right_on told (schemas ts) ∷ (join_sites ts [] ++ []))) (sym (under_sites run w (rose tt (join left_on right_on stored told) (collapsed_all ts)) []))
              (subst (λ (b : Bool). SiteCollapsed (site_of run left_on right_on told (schemas (collapsed_all ts))) (site_of run left_on right_on told (schemas ts)) b) (sym (ap (λ (b : Bool). b && not (is_empty run)) c)) refl, sites_last (join_sites (collapsed_all ts) []) (join_sites ts []) all)
      at _ (another o k) all first x =
          let plain : (us : Roses (Unit {0}) Op) → own_site o run (schemas us) ++ (join_sites us (run_below o run) ++ []) ≡ join_sites us [] ++ [] = λ us. ap₂ (λ (sites : List JoinSite) (r : List Named). sites ++ (join_sites us r ++ [])) (k.no_site run (schemas us)) (k.below run) in
          subst (λ (sites : List JoinSite). SitesCollapsed sites (own_site o run (schemas ts) ++ (join_sites ts (run_below o run) ++ [])))
          (sym (ap (λ (q : Plan). join_sites (one q) []) (k.stays run (stored_all ts) (collapsed_all ts) (λ r. first_under ts r)) ∙ under_sites run w (rose tt o (collapsed_all ts)) [] ∙ plain (collapsed_all ts)))
          (subst (λ (sites : List JoinSite). SitesCollapsed (join_sites (collapsed_all ts) [] ++ []) sites) (sym (plain ts)) (sites_last (join_sites (collapsed_all ts) []) (join_sites ts []) all))

  all_sites : (ts : Roses (Unit {0}) Op) → AllValid ts → SitesCollapsed (join_sites (collapsed_all ts) []) (join_sites ts [])
  all_sites no_roses v = tt
  all_sites (more (rose n op ts) rest) v =
      subst (λ (sites : List JoinSite). SitesCollapsed (join_sites (more (collapsed_under (rose n op ts) []) (collapsed_all rest)) []) sites) (sym (more_sites (rose n op ts) rest []))
      (subst (λ (sites : List JoinSite). SitesCollapsed sites (join_sites (one (rose n op ts)) [] ++ join_sites rest [])) (sym (more_sites (collapsed_under (rose n op ts) []) (collapsed_all rest) []))
      (sites_joined (join_sites (one (collapsed_under (rose n op ts) [])) []) (join_sites (one (rose n op ts)) []) (join_sites (collapsed_all rest) []) (join_sites rest []) (run_sites (rose n op ts) [] tt (v.0, v.1)) (all_sites rest v.2)))

  first_sites : (ts : Roses (Unit {0}) Op) (run : List Named) (e : Named) → IsRun run → is_elementwise e.expr ≡ true → IsValid (rose tt (filter e) ts) → SitesCollapsed (join_sites (one (first_under ts (run ++ e ∷ []))) []) (join_sites ts (run ++ e ∷ []) ++ [])
  first_sites no_roses run e w q v = absurd (both_ways false refl v.0.0)
  first_sites (more (rose n op ts) no_roses) run e w q v =
      subst (λ (sites : List JoinSite). SitesCollapsed (join_sites (one (collapsed_under (rose n op ts) (run ++ e ∷ []))) []) sites) (sym (append-nil (join_sites (one (rose n op ts)) (run ++ e ∷ []))))
      (run_sites (rose n op ts) (run ++ e ∷ []) (all_append (λ (d : Named). is_elementwise d.expr ≡ true) run (e ∷ []) w (q, tt)) (v.1.0, v.1.1))
  first_sites (more (rose n op ts) (more (rose m o us) rest)) run e w q v = absurd (both_ways false refl v.0.0)

-- the collapsed plan is collapsed
pub collapsed_is : (p : Plan) → IsValid p → IsCollapsed (collapsed p) p
collapsed_is p v = record { joins = run_sites p [] tt v; nodes = collapsed_few p v }
