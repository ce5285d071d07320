-- A clustered plan refines the plan.
use Rattle.std.proofs.Common.{◌≡◌, ◌∙◌, ◌++◌, Bool, true, false, cond, List, [], ◌∷◌, Option, Some, None, refl, sym, ap, subst, ℕ, zero, suc}
use Rattle.plan_core.specs.Columns.{Columns}
use Rattle.plan_tree.specs.Rose.{Roses, rose, no_roses, more}
use Rattle.plan_ir.specs.Plans.{Op, simple_projection, Plan}
use Rattle.plan_meaning.specs.Checks.{is_empty}
use Rattle.plan_meaning.specs.Typing.{AllValid}
use Rattle.plan_meaning.specs.Steps.{IsValid}
use Rattle.plan_meaning.specs.Relating.{EachRefines, Refines}
use Rattle.plan_meaning.proofs.Refining.{refines_node, refines_refl, refines_trans}
use Rattle.plan_collapse_laws.specs.Additions.{Addition, addition_of, as_op}
use Rattle.plan_collapse_laws.specs.Meeting.{as_one, leaves_order, left_above, met, moving, restored_if, stayed, sunk_into, taking}
use Rattle.plan_collapse_laws.proofs.PairRefines.{met_refines}
use Rattle.plan_collapse_laws.specs.Runs.{Link, adds, projects, link_op, linked, linked_in, looked_at, looked_under, looks, rested, unrest}
use Rattle.plan_collapse_laws.specs.Clustered.{at_node, clustered, clustered_all, over_node, run_over}
use Rattle.plan_collapse_laws.proofs.Counted.{is_addition}
use Rattle.plan_collapse_laws.proofs.Links.{one, last_some, linked-last, linked-met, linked_one, look_some, under_some}

-- what meets, over what refines

module _ (u l : Addition) (below : Addition → Plan) where
  module _ (ts : Roses (Unit {0}) Op) (by : (x : Addition) → IsValid (rose tt (as_op x) ts) → Refines (below x) (rose tt (as_op x) ts)) where
    abbrev base : Addition → Plan
    base x = rose tt (as_op x) ts

    over_below : (o : Op) (x : Addition) → IsValid (rose tt o (one (rose tt (as_op x) ts))) → Refines (rose tt o (one (below x))) (rose tt o (one (rose tt (as_op x) ts)))
    over_below o x v = refines_node o (one (below x)) (one (rose tt (as_op x) ts)) v (by x (v.1.0, v.1.1), tt)

    restored_below : (b : Bool) (s : Columns) (o : Op) (x : Addition) → IsValid (restored_if b s (rose tt o (one (rose tt (as_op x) ts)))) → Refines (restored_if b s (rose tt o (one (below x)))) (restored_if b s (rose tt o (one (rose tt (as_op x) ts))))
    restored_below true s o x v = refines_node (simple_projection s) (one (rose tt o (one (below x)))) (one (rose tt o (one (rose tt (as_op x) ts)))) v (over_below o x (v.1.0, v.1.1), tt)
    restored_below false s o x v = over_below o x v

    met_below : IsValid (met u l (λ (x : Addition). rose tt (as_op x) ts)) → Refines (met u l below) (met u l (λ (x : Addition). rose tt (as_op x) ts))
    met_below v = at (is_empty (stayed u l)) (is_empty (taking u l ++ moving u l)) v
      where
        at : (b c : Bool) → IsValid (cond b (base (as_one u l)) (cond c (rose tt (as_op u) (one (base l))) (restored_if (leaves_order u l) u.schema (rose tt (as_op (left_above u l)) (one (base (sunk_into u l)))))))
            → Refines (cond b (below (as_one u l)) (cond c (rose tt (as_op u) (one (below l))) (restored_if (leaves_order u l) u.schema (rose tt (as_op (left_above u l)) (one (below (sunk_into u l)))))))
            (cond b (base (as_one u l)) (cond c (rose tt (as_op u) (one (base l))) (restored_if (leaves_order u l) u.schema (rose tt (as_op (left_above u l)) (one (base (sunk_into u l)))))))
        at true c w = by (as_one u l) w
        at false true w = over_below (as_op u) l w
        at false false w = restored_below (leaves_order u l) u.schema (as_op (left_above u l)) (sunk_into u l) w

  -- an addition is valid over one plan alone
  pair_refines : (ts : Roses (Unit {0}) Op) → ((x : Addition) → IsValid (rose tt (as_op x) ts) → Refines (below x) (rose tt (as_op x) ts)) → IsValid (rose tt (as_op u) (one (rose tt (as_op l) ts))) → Refines (met u l below) (rose tt (as_op u) (one (rose tt (as_op l) ts)))
  pair_refines no_roses by v = both_false v.1.0.0
    where
      both_false : false ≡ true → Refines (met u l below) (rose tt (as_op u) (one (rose tt (as_op l) no_roses)))
      both_false e = cc
  pair_refines (more (rose n op ts) (more (rose m o us) rest)) by v = both_false v.1.0.0
    where
      both_false : false ≡ true → Refines (met u l below) (rose tt (as_op u) (one (rose tt (as_op l) (more (rose n op ts) (more (rose m o us) rest)))))
      both_false e = cc
  pair_refines (more (rose n op ts) no_roses) by v =
      let r = met_refines u l n op ts v in
      refines_trans (met u l below) (met u l (λ (x : Addition). rose tt (as_op x) (more (rose n op ts) no_roses))) (rose tt (as_op u) (one (rose tt (as_op l) (more (rose n op ts) no_roses))))
      (met_below (more (rose n op ts) no_roses) by r.valid) r

-- a look refines

each_refl : (ts : Roses (Unit {0}) Op) → AllValid ts → EachRefines ts ts
each_refl no_roses v = tt
each_refl (more (rose n op ts) rest) v = (refines_refl (rose n op ts) (v.0, v.1), each_refl rest v.2)

mutual
  under_refines : (ks : List Link) (ts : Roses (Unit {0}) Op) (u : Addition) → IsValid (rose tt (as_op u) (linked_in ks ts)) → Refines (linked (looked_under ks u) ts) (rose tt (as_op u) (linked_in ks ts))
  under_refines [] ts u v = refines_refl (rose tt (as_op u) ts) v
  under_refines (adds l ∷ ks) ts u v = subst (λ (q : Plan). Refines q (rose tt (as_op u) (one (rose tt (as_op l) (linked_in ks ts))))) (sym (linked-met u l (λ x. looked_under ks x) ts (λ x. under_some ks x)))
      (pair_refines u l (λ x. linked (looked_under ks x) ts) (linked_in ks ts) (λ x w. under_refines ks ts x w) v)
  under_refines (projects s ∷ ks) ts u v = refines_node (as_op u) (one (rose tt (simple_projection s) (linked_in (looked_at ks) ts))) (one (rose tt (simple_projection s) (linked_in ks ts))) v
      (refines_node (simple_projection s) (linked_in (looked_at ks) ts) (linked_in ks ts) (v.1.0, v.1.1) (each_refines ks ts v.1.1), tt)

  each_refines : (ks : List Link) (ts : Roses (Unit {0}) Op) → AllValid (linked_in ks ts) → EachRefines (linked_in (looked_at ks) ts) (linked_in ks ts)
  each_refines [] ts v = each_refl ts v
  each_refines (adds u ∷ ks) ts v = subst (λ (qs : Roses (Unit {0}) Op). EachRefines qs (one (rose tt (as_op u) (linked_in ks ts)))) (sym (linked_one (looked_under ks u) ts (under_some ks u))) (under_refines ks ts u (v.0, v.1), tt)
  each_refines (projects s ∷ ks) ts v = (refines_node (simple_projection s) (linked_in (looked_at ks) ts) (linked_in ks ts) (v.0, v.1) (each_refines ks ts v.1), tt)

look_refines : (ks : List Link) (ts : Roses (Unit {0}) Op) → is_empty ks ≡ false → IsValid (linked ks ts) → Refines (linked (looked_at ks) ts) (linked ks ts)
look_refines [] ts e v = refines_refl (linked [] ts) v
look_refines (adds u ∷ ks) ts e v = under_refines ks ts u v
look_refines (projects s ∷ ks) ts e v = refines_node (simple_projection s) (linked_in (looked_at ks) ts) (linked_in ks ts) v (each_refines ks ts v.1)

looks_refine : (n : ℕ) (ks : List Link) (ts : Roses (Unit {0}) Op) → is_empty ks ≡ false → IsValid (linked ks ts) → Refines (linked (looks n ks) ts) (linked ks ts)
looks_refine zero ks ts e v = refines_refl (linked ks ts) v
looks_refine (suc n) ks ts e v =
    let r = look_refines ks ts e v in
    refines_trans (linked (looks n (looked_at ks)) ts) (linked (looked_at ks) ts) (linked ks ts) (looks_refine n (looked_at ks) ts (look_some ks e) r.valid) r

-- a run at rest, over plans that refine what it stood over, refines the run

linked_refines : (ks : List Link) (qs ts : Roses (Unit {0}) Op) → is_empty ks ≡ false → EachRefines qs ts → IsValid (linked ks ts) → Refines (linked ks qs) (linked ks ts)
linked_refines [] qs ts e h v = cc
linked_refines (k ∷ []) qs ts e h v = refines_node (link_op k) qs ts v h
linked_refines (k ∷ j ∷ ks) qs ts e h v = refines_node (link_op k) (one (linked (j ∷ ks) qs)) (one (linked (j ∷ ks) ts)) v (linked_refines (j ∷ ks) qs ts refl h (v.1.0, v.1.1), tt)

pub rested_refines : (ks : List Link) (qs ts : Roses (Unit {0}) Op) → is_empty ks ≡ false → EachRefines qs ts → IsValid (linked ks ts) → Refines (linked (rested ks) qs) (linked ks ts)
rested_refines ks qs ts e h v =
    let r = linked_refines ks qs ts e h v in
    refines_trans (linked (rested ks) qs) (linked ks qs) (linked ks ts) (looks_refine (unrest ks) ks qs e r.valid) r

-- what links stand over is valid
pub valid_below : (ks : List Link) (ts : Roses (Unit {0}) Op) → is_empty ks ≡ false → IsValid (linked ks ts) → AllValid ts
valid_below [] ts e v = cc
valid_below (k ∷ []) ts e v = v.1
valid_below (k ∷ j ∷ ks) ts e v = valid_below (j ∷ ks) ts refl (v.1.0, v.1.1)

mutual
  pub clustered_refines : (p : Plan) → IsValid p → Refines (clustered p) p
  clustered_refines (rose n op ts) v = at (addition_of op) refl (all_refine ts v.1) (λ run e w. run_refines ts run e w)
    where
      at : (o : Option Addition) → addition_of op ≡ o → EachRefines (clustered_all ts) ts → ((run : List Link) → is_empty run ≡ false → IsValid (linked run ts) → Refines (run_over ts run) (linked run ts)) → Refines (at_node o op (clustered_all ts) (λ u. run_over ts (adds u ∷ []))) (rose tt op ts)
      at None e all runs = refines_node op (clustered_all ts) ts v all
      at (Some u) e all runs = subst (λ (o : Op). Refines (run_over ts (adds u ∷ [])) (rose tt o ts)) (sym (is_addition op u e)) (runs (adds u ∷ []) refl (subst (λ (o : Op). IsValid (rose tt o ts)) (is_addition op u e) v))

  pub all_refine : (ps : Roses (Unit {0}) Op) → AllValid ps → EachRefines (clustered_all ps) ps
  all_refine no_roses v = tt
  all_refine (more (rose n op ts) ps) v = (clustered_refines (rose n op ts) (v.0, v.1), all_refine ps v.2)

  pub run_refines : (ts : Roses (Unit {0}) Op) (run : List Link) → is_empty run ≡ false → IsValid (linked run ts) → Refines (run_over ts run) (linked run ts)
  run_refines no_roses run s v = rested_refines run no_roses no_roses s tt v
  run_refines (more (rose n op ts) rest) run s v = at rest (addition_of op) refl (all_refine ts (valid_below run (more (rose n op ts) rest) s v).1) (λ r e w. run_refines ts r e w) (all_refine rest (valid_below run (more (rose n op ts) rest) s v).2) v
    where
      at : (ps : Roses (Unit {0}) Op) (o : Option Addition) → addition_of op ≡ o → EachRefines (clustered_all ts) ts → ((r : List Link) → is_empty r ≡ false → IsValid (linked r ts) → Refines (run_over ts r) (linked r ts)) → EachRefines (clustered_all ps) ps → IsValid (linked run (more (rose tt op ts) ps)) → Refines (over_node run o op (clustered_all ts) (λ r. run_over ts r) (clustered_all ps)) (linked run (more (rose tt op ts) ps))
      at ps None e all runs others w =
          let b = valid_below run (more (rose tt op ts) ps) s w in
          rested_refines run (more (rose tt op (clustered_all ts)) (clustered_all ps)) (more (rose tt op ts) ps) s (refines_node op (clustered_all ts) ts (b.0, b.1) all, others) w
      at no_roses (Some l) e all runs others w =
          let same : linked (run ++ adds l ∷ []) ts ≡ linked run (one (rose tt op ts)) = linked-last run l ts ∙ ap (λ (o : Op). linked run (one (rose tt o ts))) (sym (is_addition op l e)) in
          subst (λ (p : Plan). Refines (run_over ts (run ++ adds l ∷ [])) p) same (runs (run ++ adds l ∷ []) (last_some run (adds l)) (subst IsValid (sym same) w))
      at (more p ps) (Some l) e all runs others w =
          let b = valid_below run (more (rose tt op ts) (more p ps)) s w in
          let is = is_addition op l e in
          let first : Refines (run_over ts (adds l ∷ [])) (rose tt op ts) = subst (λ (o : Op). Refines (run_over ts (adds l ∷ [])) (rose tt o ts)) (sym is) (runs (adds l ∷ []) refl (subst (λ (o : Op). IsValid (rose tt o ts)) is (b.0, b.1))) in
          rested_refines run (more (run_over ts (adds l ∷ [])) (clustered_all (more p ps))) (more (rose tt op ts) (more p ps)) s (first, others) w
