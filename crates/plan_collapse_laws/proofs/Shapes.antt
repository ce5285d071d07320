-- A clustered plan is clustered, and one that is stays as it is.
use Rattle.std.proofs.Common.{◌≡◌, ◌∙◌, ◌++◌, ◌+◌, ◌<◌, Bool, true, false, not, ◌&&◌, cond, List, [], ◌∷◌, Option, Some, None, refl, sym, ap, ap₂, subst, inl, inr, ℕ, length, arith}
use Rattle.std.specs.List.{filter as only_where}
use Rattle.plan_core.specs.Names.{has, AreDistinct}
use Rattle.plan_tree.specs.Rose.{Roses, rose, no_roses, more}
use Rattle.plan_expr.specs.Exprs.{Named}
use Rattle.plan_expr.specs.Leaves.{Name}
use Rattle.plan_frame.specs.ExprLists.{out_names}
use Rattle.plan_ir.specs.Plans.{Op, Plan}
use Rattle.plan_meaning.specs.Checks.{is_empty}
use Rattle.plan_meaning.specs.PlanAt.{one_plan}
use Rattle.plan_meaning.specs.Typing.{schemas, AllValid, schema_by}
use Rattle.plan_meaning.specs.Steps.{IsValid}
use Rattle.plan_meaning.specs.Relating.{EachRefines}
use Rattle.plan_meaning.proofs.CheckParts.{made_good}
use Rattle.plan_meaning.proofs.KeptExprs.{new_distinct}
use Rattle.plan_meaning.proofs.Refining.{refines_node}
use Rattle.plan_collapse_laws.specs.Additions.{Addition, addition_of, as_op}
use Rattle.plan_collapse_laws.specs.Staying.{out, IsOne, stays}
use Rattle.plan_collapse_laws.specs.Meeting.{takes_place, moves_down, as_one, leaves_order, left_above, moving, stayed, sunk_into, taking}
use Rattle.plan_collapse_laws.proofs.Staying.{least, holds-staying, only-staying, passing_named}
use Rattle.plan_collapse_laws.specs.Counts.{additions, placing_in}
use Rattle.plan_collapse_laws.specs.Clusters.{addition_below, Rests, AllClustered}
use Rattle.plan_collapse_laws.specs.Runs.{Link, adds, projects, link_op, linked, linked_in, looked_at, looked_under, met_links, projected_if, rested}
use Rattle.plan_collapse_laws.specs.Clustered.{at_node, clustered, clustered_all, over_node, run_over}
use Rattle.plan_collapse_laws.proofs.Counted.{is_addition, one_strict, some_left, some_strict}
use Rattle.plan_collapse_laws.proofs.Links.{added_link, last_in, last_some, link_added, linked-last, linked-restored, linked_one, one, rested_end, rested_some, rested_still, under_lighter, under_some}
use Rattle.plan_collapse_laws.proofs.Refining.{all_refine, rested_refines, valid_below}

-- the addition that the first of some links is, if it is one
abbrev pub first_added : List Link → Option Addition
first_added [] = None
first_added (k ∷ ks) = link_added k

-- each addition of a run rests on what is below it in the run
abbrev pub LinksRest : List Link → Type 0
LinksRest [] = Unit {0}
LinksRest (k ∷ ks) = Rests (link_added k) (first_added ks) × LinksRest ks

-- a run that rests stays

all_stay : (stay : Named → Bool) (es : List Named) → ((e : Named) → IsOne e es → stay e ≡ true) → (lower : List Name) → (only_where stay es ≡ es) × (only_where (takes_place lower stay) es ≡ []) × (only_where (moves_down lower stay) es ≡ [])
all_stay stay [] by lower = (refl, refl, refl)
all_stay stay (e ∷ es) by lower =
    let r = all_stay stay es (λ d i. by d (inr i)) lower in
    let s = by e (inl refl) in (
      ap (λ (b : Bool). cond b (e ∷ only_where stay es) (only_where stay es)) s ∙ ap (λ (xs : List Named). e ∷ xs) r.0,
      ap (λ (b : Bool). cond (not b && has lower (out e)) (e ∷ only_where (takes_place lower stay) es) (only_where (takes_place lower stay) es)) s ∙ r.1,
      ap (λ (b : Bool). cond (not b && not (has lower (out e))) (e ∷ only_where (moves_down lower stay) es) (only_where (moves_down lower stay) es)) s ∙ r.2,
    )

pub met_left : (u l : Addition) (below : Addition → List Link) → Rests (Some u) (Some l) → met_links u l below ≡ adds u ∷ below l
met_left u l below r =
    let lower = out_names l.exprs in
    let stay = stays u.exprs lower in
    let a = all_stay stay u.exprs (λ d i. least u.exprs lower stay (holds-staying u.exprs lower) d (r.1 d i)) lower in
    ap (λ (xs : List Named). cond (is_empty xs) (below (as_one u l)) (cond (is_empty (taking u l ++ moving u l)) (adds u ∷ below l) (projected_if (leaves_order u l) u.schema (adds (left_above u l) ∷ below (sunk_into u l))))) a.0
    ∙ ap (λ (b : Bool). cond b (below (as_one u l)) (cond (is_empty (taking u l ++ moving u l)) (adds u ∷ below l) (projected_if (leaves_order u l) u.schema (adds (left_above u l) ∷ below (sunk_into u l))))) r.0
    ∙ ap₂ (λ (xs ys : List Named). cond (is_empty (xs ++ ys)) (adds u ∷ below l) (projected_if (leaves_order u l) u.schema (adds (left_above u l) ∷ below (sunk_into u l)))) a.1 a.2

mutual
  under_idle : (ks : List Link) (u : Addition) → Rests (Some u) (first_added ks) → LinksRest ks → looked_under ks u ≡ adds u ∷ ks
  under_idle [] u r h = refl
  under_idle (adds l ∷ ks) u r h = met_left u l (λ x. looked_under ks x) r ∙ ap (λ (js : List Link). adds u ∷ js) (under_idle ks l h.0 h.1)
  under_idle (projects s ∷ ks) u r h = ap (λ (js : List Link). adds u ∷ projects s ∷ js) (look_idle ks h.1)

  look_idle : (ks : List Link) → LinksRest ks → looked_at ks ≡ ks
  look_idle [] h = refl
  look_idle (adds u ∷ ks) h = under_idle ks u h.0 h.1
  look_idle (projects s ∷ ks) h = ap (λ (js : List Link). projects s ∷ js) (look_idle ks h.1)

-- a valid run that stays rests

none_passes : (p : Named → Bool) (es : List Named) (e : Named) → IsOne e es → only_where p es ≡ [] → p e ≡ true → ⊥
none_passes p es e i none k = let h : has (out_names (only_where p es)) (out e) ≡ true = passing_named p es e i k in no (ap (λ (xs : List Named). has (out_names xs) (out e)) (sym none) ∙ h)
  where
    no : false ≡ true → ⊥
    no q = cc

nothing_front : {X : Type 0} (xs ys : List X) → is_empty (xs ++ ys) ≡ true → xs ≡ []
nothing_front [] ys e = refl
nothing_front (x ∷ xs) ys e = cc

nothing_back : {X : Type 0} (xs ys : List X) → is_empty (xs ++ ys) ≡ true → ys ≡ []
nothing_back [] [] e = refl
nothing_back [] (y ∷ ys) e = cc
nothing_back (x ∷ xs) ys e = cc

staying_all : (u l : Addition) → is_empty (taking u l ++ moving u l) ≡ true → (e : Named) → IsOne e u.exprs → stays u.exprs (out_names l.exprs) e ≡ true
staying_all u l none e i = at (stays u.exprs (out_names l.exprs) e) refl (has (out_names l.exprs) (out e)) refl
  where
    at : (b : Bool) → stays u.exprs (out_names l.exprs) e ≡ b → (c : Bool) → has (out_names l.exprs) (out e) ≡ c → b ≡ true
    at true k c m = refl
    at false k true m = absurd (none_passes (takes_place (out_names l.exprs) (stays u.exprs (out_names l.exprs))) u.exprs e i (nothing_front (taking u l) (moving u l) none) (ap₂ (λ (x y : Bool). not x && y) k m))
    at false k false m = absurd (none_passes (moves_down (out_names l.exprs) (stays u.exprs (out_names l.exprs))) u.exprs e i (nothing_back (taking u l) (moving u l) none) (ap₂ (λ (x y : Bool). not x && not y) k m))

some_exprs : (stay : Named → Bool) (es : List Named) → is_empty (only_where stay es) ≡ false → is_empty es ≡ false
some_exprs stay [] e = cc
some_exprs stay (x ∷ es) e = refl

abbrev measure : Plan → ℕ
measure p = placing_in (one p) + additions (one p)

not_less : (q p : Plan) → measure q < measure p → q ≡ p → ⊥
not_less q p l e = let k : measure q ≡ measure p = ap measure e in omega (arith, l, k)

once_of : (u : Addition) (op : Op) (ts : Roses (Unit {0}) Op) → IsValid (rose tt (as_op u) (one (rose tt op ts))) → AreDistinct (out_names u.exprs)
once_of u op ts v = new_distinct 1 [] (out_names u.exprs) (made_good (schema_by op (schemas ts)) u.exprs u.schema (schema_by op (schemas ts)) v.0).once

still_met : (u l : Addition) (ks : List Link) (ts : Roses (Unit {0}) Op) → AreDistinct (out_names u.exprs) → looked_under (adds l ∷ ks) u ≡ adds u ∷ adds l ∷ ks → Rests (Some u) (Some l) × (looked_under ks l ≡ adds l ∷ ks)
still_met u l ks ts once e = at (is_empty (stayed u l)) refl (is_empty (taking u l ++ moving u l)) refl e
  where
    at : (b : Bool) → is_empty (stayed u l) ≡ b → (c : Bool) → is_empty (taking u l ++ moving u l) ≡ c → cond b (looked_under ks (as_one u l)) (cond c (adds u ∷ looked_under ks l) (projected_if (leaves_order u l) u.schema (adds (left_above u l) ∷ looked_under ks (sunk_into u l)))) ≡ adds u ∷ adds l ∷ ks → Rests (Some u) (Some l) × (looked_under ks l ≡ adds l ∷ ks)
    at true s c m q = absurd (not_less (linked (looked_under ks (as_one u l)) ts) (rose tt (as_op u) (one (rose tt (as_op l) (linked_in ks ts)))) (one_strict u l (linked_in ks ts) (λ x. linked (looked_under ks x) ts) (λ x. under_lighter ks ts x)) (ap (λ (js : List Link). linked js ts) q))
    at false s true m q = ((some_exprs (stays u.exprs (out_names l.exprs)) u.exprs s, λ d i. only-staying u.exprs (out_names l.exprs) once (length u.exprs) d i (staying_all u l m d i)), cc)
    at false s false m q = absurd (not_less (linked (projected_if (leaves_order u l) u.schema (adds (left_above u l) ∷ looked_under ks (sunk_into u l))) ts) (rose tt (as_op u) (one (rose tt (as_op l) (linked_in ks ts))))
        (subst (λ (p : Plan). measure p < measure (rose tt (as_op u) (one (rose tt (as_op l) (linked_in ks ts))))) (sym (linked-restored u l (λ x. looked_under ks x) ts (λ x. under_some ks x) (leaves_order u l)))
        (some_strict u l (linked_in ks ts) (λ x. linked (looked_under ks x) ts) (λ x. under_lighter ks ts x) (leaves_order u l) u.schema (some_left (taking u l) (moving u l) m)))
        (ap (λ (js : List Link). linked js ts) q))

mutual
  under_still : (ks : List Link) (ts : Roses (Unit {0}) Op) (u : Addition) → IsValid (rose tt (as_op u) (linked_in ks ts)) → looked_under ks u ≡ adds u ∷ ks → Rests (Some u) (first_added ks) × LinksRest ks
  under_still [] ts u v e = (tt, tt)
  under_still (adds l ∷ ks) ts u v e =
      let r = still_met u l ks ts (once_of u (as_op l) (linked_in ks ts) v) e in
      (r.0, under_still ks ts l (v.1.0, v.1.1) r.1)
  under_still (projects s ∷ ks) ts u v e = let same : looked_at ks ≡ ks = cc in (tt, (tt, look_still ks ts v.1.1 same))

  look_still : (ks : List Link) (ts : Roses (Unit {0}) Op) → AllValid (linked_in ks ts) → looked_at ks ≡ ks → LinksRest ks
  look_still [] ts v e = tt
  look_still (adds u ∷ ks) ts v e = under_still ks ts u (v.0, v.1) e
  look_still (projects s ∷ ks) ts v e = let same : looked_at ks ≡ ks = cc in (tt, look_still ks ts v.1 same)

valid_one : (q : Plan) → IsValid q → AllValid (one q)
valid_one (rose n op ts) v = (v.0, v.1, tt)

rested_rests : (run : List Link) (qs ts : Roses (Unit {0}) Op) → is_empty run ≡ false → EachRefines qs ts → IsValid (linked run ts) → LinksRest (rested run)
rested_rests run qs ts e h v = look_still (rested run) qs (subst AllValid (sym (linked_one (rested run) qs (rested_some run e))) (valid_one (linked (rested run) qs) (rested_refines run qs ts e h v).valid)) (rested_end run)

-- a run that rests is clustered over clustered plans of which the first is no addition, and a clustered one rests

links_clustered : (ks : List Link) (ts : Roses (Unit {0}) Op) → LinksRest ks → AllClustered ts → addition_below ts ≡ None → AllClustered (linked_in ks ts)
links_clustered [] ts h c e = c
links_clustered (k ∷ []) ts h c e = (top k, c, tt)
  where
    top : (k : Link) → Rests (addition_of (link_op k)) (addition_below ts)
    top (adds u) = subst (λ (o : Option Addition). Rests (Some u) o) (sym e) tt
    top (projects s) = tt
links_clustered (k ∷ j ∷ ks) ts h c e = (subst (λ (o : Option Addition). Rests o (addition_of (link_op j))) (sym (added_link k)) (subst (λ (o : Option Addition). Rests (link_added k) o) (sym (added_link j)) h.0), links_clustered (j ∷ ks) ts h.1 c e, tt)

links_rest : (ks : List Link) (ts : Roses (Unit {0}) Op) → AllClustered (linked_in ks ts) → LinksRest ks × AllClustered ts
links_rest [] ts c = (tt, c)
links_rest (k ∷ []) ts c = ((top k, tt), c.1)
  where
    top : (k : Link) → Rests (link_added k) None
    top (adds u) = tt
    top (projects s) = tt
links_rest (k ∷ j ∷ ks) ts c =
    let r = links_rest (j ∷ ks) ts c.1 in
    ((subst (λ (o : Option Addition). Rests (link_added k) o) (added_link j) (subst (λ (o : Option Addition). Rests o (addition_of (link_op j))) (added_link k) c.0), r.0), r.1)

-- links over several plans aren't valid
not_several : (ks : List Link) (n : Unit {0}) (op : Op) (ts : Roses (Unit {0}) Op) (p : Plan) (ps : Roses (Unit {0}) Op) → is_empty ks ≡ false → IsValid (linked ks (more (rose n op ts) (more p ps))) → ⊥
not_several [] n op ts p ps e v = no e
  where
    no : true ≡ false → ⊥
    no q = cc
not_several (adds u ∷ []) n op ts (rose m o us) ps e v = no v.0.0
  where
    no : false ≡ true → ⊥
    no q = cc
not_several (projects s ∷ []) n op ts (rose m o us) ps e v = no v.0.0
  where
    no : false ≡ true → ⊥
    no q = cc
not_several (k ∷ j ∷ ks) n op ts p ps e v = not_several (j ∷ ks) n op ts p ps refl (v.1.0, v.1.1)

-- the clustered plan is clustered

no_addition : (op : Op) (ts : Roses (Unit {0}) Op) → addition_of op ≡ None → Rests (addition_of op) (addition_below ts)
no_addition op ts e = subst (λ (o : Option Addition). Rests o (addition_below ts)) (sym e) tt

mutual
  pub clustered_is : (p : Plan) → IsValid p → AllClustered (one (clustered p))
  clustered_is (rose n op ts) v = at (addition_of op) refl (all_clustered ts v.1) (λ run e w. run_clustered ts run e w)
    where
      at : (o : Option Addition) → addition_of op ≡ o → AllClustered (clustered_all ts) → ((run : List Link) → is_empty run ≡ false → IsValid (linked run ts) → AllClustered (one (run_over ts run))) → AllClustered (one (at_node o op (clustered_all ts) (λ u. run_over ts (adds u ∷ []))))
      at None e all runs = (no_addition op (clustered_all ts) e, all, tt)
      at (Some u) e all runs = runs (adds u ∷ []) refl (subst (λ (o : Op). IsValid (rose tt o ts)) (is_addition op u e) v)

  pub all_clustered : (ps : Roses (Unit {0}) Op) → AllValid ps → AllClustered (clustered_all ps)
  all_clustered no_roses v = tt
  all_clustered (more (rose n op ts) ps) v = both (clustered (rose n op ts)) (clustered_is (rose n op ts) (v.0, v.1)) (all_clustered ps v.2)
    where
      both : (q : Plan) → AllClustered (one q) → AllClustered (clustered_all ps) → AllClustered (more q (clustered_all ps))
      both (rose m o us) c d = (c.0, c.1, d)

  pub run_clustered : (ts : Roses (Unit {0}) Op) (run : List Link) → is_empty run ≡ false → IsValid (linked run ts) → AllClustered (one (run_over ts run))
  run_clustered no_roses run s v = subst AllClustered (linked_one (rested run) no_roses (rested_some run s)) (links_clustered (rested run) no_roses (rested_rests run no_roses no_roses s tt v) tt refl)
  run_clustered (more (rose n op ts) rest) run s v =
      let b = valid_below run (more (rose n op ts) rest) s v in
      at rest (addition_of op) refl (all_clustered ts b.1) (λ r e w. run_clustered ts r e w) (all_clustered rest b.2) v
    where
      at : (ps : Roses (Unit {0}) Op) (o : Option Addition) → addition_of op ≡ o → AllClustered (clustered_all ts) → ((r : List Link) → is_empty r ≡ false → IsValid (linked r ts) → AllClustered (one (run_over ts r))) → AllClustered (clustered_all ps) → IsValid (linked run (more (rose tt op ts) ps)) → AllClustered (one (over_node run o op (clustered_all ts) (λ r. run_over ts r) (clustered_all ps)))
      at ps None e all runs others w =
          let b = valid_below run (more (rose tt op ts) ps) s w in
          let qs : Roses (Unit {0}) Op = more (rose tt op (clustered_all ts)) (clustered_all ps) in
          subst AllClustered (linked_one (rested run) qs (rested_some run s))
          (links_clustered (rested run) qs (rested_rests run qs (more (rose tt op ts) ps) s (refines_node op (clustered_all ts) ts (b.0, b.1) (all_refine ts b.1), all_refine ps b.2) w) (no_addition op (clustered_all ts) e, all, others) e)
      at no_roses (Some l) e all runs others w =
          let same : linked (run ++ adds l ∷ []) ts ≡ linked run (one (rose tt op ts)) = linked-last run l ts ∙ ap (λ (o : Op). linked run (one (rose tt o ts))) (sym (is_addition op l e)) in
          runs (run ++ adds l ∷ []) (last_some run (adds l)) (subst IsValid (sym same) w)
      at (more p ps) (Some l) e all runs others w = absurd (not_several run tt op ts p ps s w)

-- a clustered plan stays

rested_idle : (run : List Link) → LinksRest run → rested run ≡ run
rested_idle run h = rested_still run (look_idle run h)

mutual
  pub clustered_idle : (p : Plan) → AllClustered (one p) → clustered p ≡ p
  clustered_idle (rose n op ts) h = at (addition_of op) refl (all_idle ts h.1) (λ run e c. run_idle ts run e c) h
    where
      at : (o : Option Addition) → addition_of op ≡ o → clustered_all ts ≡ ts → ((run : List Link) → is_empty run ≡ false → AllClustered (linked_in run ts) → run_over ts run ≡ linked run ts) → AllClustered (one (rose tt op ts)) → at_node o op (clustered_all ts) (λ u. run_over ts (adds u ∷ [])) ≡ rose tt op ts
      at None e all runs c = ap (λ (us : Roses (Unit {0}) Op). rose tt op us) all
      at (Some u) e all runs c = runs (adds u ∷ []) refl (subst (λ (o : Op). AllClustered (one (rose tt o ts))) (is_addition op u e) c) ∙ ap (λ (o : Op). rose tt o ts) (sym (is_addition op u e))

  pub all_idle : (ps : Roses (Unit {0}) Op) → AllClustered ps → clustered_all ps ≡ ps
  all_idle no_roses h = refl
  all_idle (more (rose n op ts) ps) h = ap₂ (λ (q : Plan) (qs : Roses (Unit {0}) Op). more q qs) (clustered_idle (rose n op ts) (h.0, h.1, tt)) (all_idle ps h.2)

  pub run_idle : (ts : Roses (Unit {0}) Op) (run : List Link) → is_empty run ≡ false → AllClustered (linked_in run ts) → run_over ts run ≡ linked run ts
  run_idle no_roses run s h = ap (λ (ks : List Link). linked ks no_roses) (rested_idle run (links_rest run no_roses h).0)
  run_idle (more (rose n op ts) rest) run s h =
      let c = (links_rest run (more (rose n op ts) rest) h).1 in
      at rest (addition_of op) refl (all_idle ts c.1) (λ r e d. run_idle ts r e d) (all_idle rest c.2) h
    where
      at : (ps : Roses (Unit {0}) Op) (o : Option Addition) → addition_of op ≡ o → clustered_all ts ≡ ts → ((r : List Link) → is_empty r ≡ false → AllClustered (linked_in r ts) → run_over ts r ≡ linked r ts) → clustered_all ps ≡ ps → AllClustered (linked_in run (more (rose tt op ts) ps)) → over_node run o op (clustered_all ts) (λ r. run_over ts r) (clustered_all ps) ≡ linked run (more (rose tt op ts) ps)
      at ps None e all runs others c =
          ap (λ (ks : List Link). linked ks (more (rose tt op (clustered_all ts)) (clustered_all ps))) (rested_idle run (links_rest run (more (rose tt op ts) ps) c).0)
          ∙ ap₂ (λ (us qs : Roses (Unit {0}) Op). linked run (more (rose tt op us) qs)) all others
      at no_roses (Some l) e all runs others c =
          let is = is_addition op l e in
          let same : linked_in (run ++ adds l ∷ []) ts ≡ linked_in run (one (rose tt op ts)) = last_in run l ts ∙ ap (λ (o : Op). linked_in run (one (rose tt o ts))) (sym is) in
          runs (run ++ adds l ∷ []) (last_some run (adds l)) (subst AllClustered (sym same) c) ∙ ap one_plan same
      at (more p ps) (Some l) e all runs others c =
          let is = is_addition op l e in
          let below = (links_rest run (more (rose tt op ts) (more p ps)) c) in
          let first : run_over ts (adds l ∷ []) ≡ rose tt op ts = runs (adds l ∷ []) refl (subst (λ (o : Op). AllClustered (one (rose tt o ts))) is (below.1.0, below.1.1, tt)) ∙ ap (λ (o : Op). rose tt o ts) (sym is) in
          ap (λ (ks : List Link). linked ks (more (run_over ts (adds l ∷ [])) (clustered_all (more p ps)))) (rested_idle run below.0)
          ∙ ap₂ (λ (q : Plan) (qs : Roses (Unit {0}) Op). linked run (more q qs)) first others
