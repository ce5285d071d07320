-- What rules leave, step after step, plan beside plan, and below a node; what the loop leaves.
use Rattle.std.proofs.Common.{◌≡◌, ◌+◌, ◌<◌, ◌≤◌, ◌&&◌, ◌||◌, inl, Bool, true, false, not, cond, List, [], ◌∷◌, ◌++◌, refl, ap, arith}
use Rattle.std.proofs.lemmas.Bool.{and_from, and_parts, or_parts}
use Rattle.plan_tree.specs.Rose.{Roses, rose, no_roses, more}
use Rattle.plan_ir.specs.Plans.{Op, Plan}
use Rattle.plan_meaning.specs.Relating.{EachRefines, Refines}
use Rattle.plan_meaning.specs.Scans.{Keeps, own_scan, scans, scans_in}
use Rattle.plan_meaning.specs.Steps.{IsValid}
use Rattle.plan_meaning.specs.Typing.{AllValid}
use Rattle.plan_meaning.proofs.Keeping.{keep_trans}
use Rattle.plan_meaning.proofs.Refining.{refines_node, refines_refl, refines_trans}
use Rattle.plan_pass_laws.proofs.ScanLists.{alone_keeps, keep_join, own_keeps}
use Rattle.plan_pass_laws.specs.declared.kind.RuleKind.{RuleKind}
use Rattle.plan_pass_laws.specs.Clearing.{AreCleared, Cleared}
use Rattle.plan_pass_laws.specs.Patterns.{are_counted, are_quiet, is_counted, is_quiet, shows, shows_one}
use Rattle.plan_pass_laws.specs.Settling.{Done, Reworked, Reworks, Settles, Walked, both, idle, one_done}
use Rattle.plan_pass_laws.specs.Weights.{bulk, weight, weight_in}
use Rattle.plan_pass_laws.proofs.ClearedPatterns.{one_cleared}
use Rattle.plan_pass_laws.proofs.ClearedPlans.{are_cleared_refl, are_cleared_trans, bulk_all, cleared_all, keep_all, weight_all}

abbrev Plans : Type 0
Plans = Roses (Unit {0}) Op

-- Refinement, plan by plan

each_refl : (ps : Plans) → AllValid ps → EachRefines ps ps
each_refl no_roses v = tt
each_refl (more (rose n op ts) ps) v = (refines_refl (rose n op ts) (v.0, v.1), each_refl ps v.2)

each_trans : (rs qs ps : Plans) → EachRefines rs qs → EachRefines qs ps → EachRefines rs ps
each_trans no_roses no_roses no_roses h k = tt
each_trans (more r rs) (more q qs) (more p ps) h k = (refines_trans r q p h.0 k.0, each_trans rs qs ps h.1 k.1)
each_trans rs no_roses (more p ps) h k = absurd k
each_trans rs (more q qs) no_roses h k = absurd k
each_trans no_roses (more q qs) ps h k = absurd h
each_trans (more r rs) no_roses ps h k = absurd h

-- Steps

module _ (ks : List RuleKind) where
  -- marks were cleared, or nothing happened
  pub reworks_cleared : (qs ps : Plans) → AllValid ps → AreCleared qs ps → Reworks ks qs ps idle
  reworks_cleared qs ps v h =
      let w = weight_all qs ps h in
      let b = bulk_all qs ps h in
      record {
        refine = cleared_all qs ps v h;
        keep = keep_all qs ps h;
        counted = omega (arith, w);
        moved = λ e. absurd (no e);
        still = λ e. h;
        plain = λ c. omega (arith, b);
        seen = λ c e. absurd (no e);
      }
    where
      no : false ≡ true → ⊥
      no e = cc

  pub reworks_refl : (ps : Plans) → AllValid ps → Reworks ks ps ps idle
  reworks_refl ps v = reworks_cleared ps ps v (are_cleared_refl ps)

  -- one after another
  pub reworks_trans : (rs qs ps : Plans) (d e : Done) → Reworks ks qs ps d → Reworks ks rs qs e → Reworks ks rs ps (both d e)
  reworks_trans rs qs ps d e h k =
      let hc = h.counted in
      let kc = k.counted in
      record {
        refine = each_trans rs qs ps k.refine h.refine;
        keep = keep_trans (scans_in rs) (scans_in qs) (scans_in ps) k.keep h.keep;
        counted = omega (arith, hc, kc);
        moved = at d.changed e.changed h.moved k.moved;
        still = λ n. let s = or_parts d.changed e.changed n in are_cleared_trans rs qs ps (k.still s.1) (h.still s.0);
        plain = λ c. let x = h.plain c in let y = k.plain c in omega (arith, x, y);
        seen = λ c. seen d.changed e.changed (h.seen c) (k.seen c);
      }
    where
      at : (a b : Bool) → (a ≡ true → weight_in qs < weight_in ps) → (b ≡ true → weight_in rs < weight_in qs) → (a || b) ≡ true → weight_in rs < weight_in ps
      at true b f g n = let x = f refl in let y = k.counted in omega (arith, x, y)
      at false true f g n = let x = g refl in let y = h.counted in omega (arith, x, y)
      at false false f g n = cc

      seen : (a b : Bool) → (a ≡ true → 1 ≤ d.replaced) → (b ≡ true → 1 ≤ e.replaced) → (a || b) ≡ true → 1 ≤ d.replaced + e.replaced
      seen true b f g n = let x = f refl in omega (arith, x)
      seen false true f g n = let x = g refl in omega (arith, x)
      seen false false f g n = cc

  -- one beside others, the last first
  pub reworks_beside : (q p : Plan) (qs ps : Plans) (d e : Done) → Reworks ks qs ps d → Reworked ks q p e → Reworks ks (more q qs) (more p ps) (both d e)
  reworks_beside q p qs ps d e h k =
      let hc = h.counted in
      let kc = k.counted in
      record {
        refine = (k.refine.0, h.refine);
        keep = keep_join (scans q) (scans_in qs) (scans p) (scans_in ps) (alone_keeps q p k.keep) h.keep;
        counted = omega (arith, hc, kc);
        moved = at d.changed e.changed h.moved k.moved;
        still = λ n. let s = or_parts d.changed e.changed n in still q p (k.still s.1) (h.still s.0);
        plain = λ c. let x = h.plain c in let y = k.plain c in omega (arith, x, y);
        seen = λ c. seen d.changed e.changed (h.seen c) (k.seen c);
      }
    where
      still : (q' p' : Plan) → AreCleared (more q' no_roses) (more p' no_roses) → AreCleared qs ps → AreCleared (more q' qs) (more p' ps)
      still (rose m o us) (rose n op ts) x y = (x.0, x.1, y)

      at : (a b : Bool) → (a ≡ true → weight_in qs < weight_in ps) → (b ≡ true → weight q + 0 < weight p + 0) → (a || b) ≡ true → weight q + weight_in qs < weight p + weight_in ps
      at true b f g n = let x = f refl in let y = k.counted in omega (arith, x, y)
      at false true f g n = let x = g refl in let y = h.counted in omega (arith, x, y)
      at false false f g n = cc

      seen : (a b : Bool) → (a ≡ true → 1 ≤ d.replaced) → (b ≡ true → 1 ≤ e.replaced) → (a || b) ≡ true → 1 ≤ d.replaced + e.replaced
      seen true b f g n = let x = f refl in omega (arith, x)
      seen false true f g n = let x = g refl in omega (arith, x)
      seen false false f g n = cc

  -- below a node
  pub reworks_under : (op : Op) (us ts : Plans) (d : Done) → IsValid (rose tt op ts) → Reworks ks us ts d → Reworked ks (rose tt op us) (rose tt op ts) d
  reworks_under op us ts d v h =
      let hc = h.counted in
      record {
        refine = (refines_node op us ts v h.refine, tt);
        keep = keep_join (own_scan op ++ scans_in us) [] (own_scan op ++ scans_in ts) [] (keep_join (own_scan op) (scans_in us) (own_scan op) (scans_in ts) (own_keeps op) h.keep) tt;
        counted = omega (arith, hc);
        moved = λ e. let x = h.moved e in omega (arith, x);
        still = λ e. (inl refl, h.still e, tt);
        plain = λ c. let x = h.plain c in omega (arith, x);
        seen = h.seen;
      }

  -- a plan alone was walked: its root and the expressions of this first, and then its inputs
  pub walked_node : (op : Op) (p : Plan) (us ts : Plans) (top below : Done) → IsValid (rose tt op ts) → Reworked ks (rose tt op ts) p top → (top.changed ≡ false → shows_one ks (rose tt op ts) ≡ false) → Walked ks us ts below → Walked ks (more (rose tt op us) no_roses) (more p no_roses) (both top below)
  walked_node op p us ts top below v first quiet w = record {
    reworks = reworks_trans (more (rose tt op us) no_roses) (more (rose tt op ts) no_roses) (more p no_roses) top below first (reworks_under op us ts below v w.reworks);
    quiet = λ n.
        let a = or_parts top.changed below.changed n in
        and_from (not (shows_one ks (rose tt op us)) && are_quiet ks us) true
        (and_from (not (shows_one ks (rose tt op us))) (are_quiet ks us) (ap not (one_cleared ks (rose tt op us) (rose tt op ts) (inl refl, w.reworks.still a.1) (quiet a.0))) (w.quiet a.1)) refl;
  }

  -- the rules were called at a root, and then at the expressions of its node
  pub after_exprs : (r q p : Plan) (top exprs : Done) → Reworked ks q p top → (top.changed ≡ false → shows_one ks q ≡ false) → Reworked ks r q exprs → Reworked ks r p (both top exprs) × ((both top exprs).changed ≡ false → shows_one ks r ≡ false)
  after_exprs r q p top exprs h quiet k = (
    reworks_trans (more r no_roses) (more q no_roses) (more p no_roses) top exprs h k,
    (λ n. let a = or_parts top.changed exprs.changed n in one_cleared ks r q (alone r q (k.still a.1)) (quiet a.0)),
  )
    where
      alone : (q' p' : Plan) → AreCleared (more q' no_roses) (more p' no_roses) → Cleared q' p'
      alone (rose m o us) (rose n op ts) x = (x.0, x.1)

  pub walked_none : Walked ks no_roses no_roses idle
  walked_none = record { reworks = reworks_refl no_roses tt; quiet = λ e. refl }

  pub walked_more : (q p : Plan) (qs ps : Plans) (d e : Done) → Walked ks qs ps d → Walked ks (more q no_roses) (more p no_roses) e → Walked ks (more q qs) (more p ps) (both d e)
  walked_more q p qs ps d e h k = record {
    reworks = reworks_beside q p qs ps d e h.reworks k.reworks;
    quiet = λ n.
        let s = or_parts d.changed e.changed n in
        and_from (is_quiet ks q) (are_quiet ks qs) (and_parts (is_quiet ks q) true (k.quiet s.1)).0 (h.quiet s.0);
  }

  -- a walk that changed nothing ends the loop
  pub settles : (r q p : Plan) (d e : Done) → Reworked ks q p d → Walked ks (more r no_roses) (more q no_roses) e → e.changed ≡ false → Settles ks p r (d.replaced + e.replaced)
  settles r q p d e h w still =
      let all = reworks_trans (more r no_roses) (more q no_roses) (more p no_roses) d e h w.reworks in
      let c = all.counted in
      record {
        refines = all.refine.0;
        keeps = alone_keeps r p all.keep;
        counted = omega (arith, c);
        same = λ x. cleared r p (at (d.changed || e.changed) refl all.moved all.still x);
        quiet = (and_parts (is_quiet ks r) true (w.quiet still)).0;
        plain = λ k. let y = all.plain k in omega (arith, y);
        nothing = λ k z. cleared r p (none (d.changed || e.changed) refl (all.seen k) all.still z);
      }
    where
      cleared : (q' p' : Plan) → AreCleared (more q' no_roses) (more p' no_roses) → Cleared q' p'
      cleared (rose m o us) (rose n op ts) x = (x.0, x.1)

      at : (b : Bool) → (d.changed || e.changed) ≡ b → ((d.changed || e.changed) ≡ true → weight r + 0 < weight p + 0) → ((d.changed || e.changed) ≡ false → AreCleared (more r no_roses) (more p no_roses)) → weight r ≡ weight p → AreCleared (more r no_roses) (more p no_roses)
      at true n f g x = let y = f n in absurd (omega (arith, y, x))
      at false n f g x = g n

      none : (b : Bool) → (d.changed || e.changed) ≡ b → ((d.changed || e.changed) ≡ true → 1 ≤ d.replaced + e.replaced) → ((d.changed || e.changed) ≡ false → AreCleared (more r no_roses) (more p no_roses)) → d.replaced + e.replaced ≡ 0 → AreCleared (more r no_roses) (more p no_roses)
      none true n f g x = let y = f n in absurd (omega (arith, y, x))
      none false n f g x = g n

-- the kinds of one part are among those of more
pub reworks_weaker : (ks ls : List RuleKind) (qs ps : Plans) (d : Done) → (are_counted ls ≡ true → are_counted ks ≡ true) → Reworks ks qs ps d → Reworks ls qs ps d
reworks_weaker ks ls qs ps d sub h = record {
  refine = h.refine;
  keep = h.keep;
  counted = h.counted;
  moved = h.moved;
  still = h.still;
  plain = λ c. h.plain (sub c);
  seen = λ c. h.seen (sub c);
}

-- a rule of a kind put one plan in the place of another
pub reworked_answer : (k : RuleKind) (q p : Plan) → Refines q p → Keeps q p → weight q < weight p → (is_counted k ≡ true → bulk q < bulk p) → Reworked (k ∷ []) q p (one_done k)
reworked_answer k q p r keeps lighter smaller = record {
  refine = (r, tt);
  keep = keep_join (scans q) [] (scans p) [] keeps tt;
  counted = counted (is_counted k);
  moved = λ e. omega (arith, lighter);
  still = λ e. absurd (no e);
  plain = λ c. plain (is_counted k) (and_parts (is_counted k) true c).0 smaller;
  seen = λ c e. seen (is_counted k) (and_parts (is_counted k) true c).0;
}
  where
    no : true ≡ false → ⊥
    no e = cc

    counted : (b : Bool) → cond b 1 0 + (weight q + 0) ≤ weight p + 0
    counted true = omega (arith, lighter)
    counted false = omega (arith, lighter)

    plain : (b : Bool) → b ≡ true → (b ≡ true → bulk q < bulk p) → cond b 1 0 + (bulk q + 0) ≤ bulk p + 0
    plain true e f = let x = f refl in omega (arith, x)
    plain false e f = cc

    seen : (b : Bool) → b ≡ true → 1 ≤ cond b 1 0
    seen true e = omega arith
    seen false e = cc

-- Rules of some kinds were called at a root, and then one more until it answered nothing

one_or_more : (ks : List RuleKind) (k : RuleKind) → are_counted (ks ++ k ∷ []) ≡ true → (are_counted ks ≡ true) × (are_counted (k ∷ []) ≡ true)
one_or_more [] k e = (refl, e)
one_or_more (l ∷ ks) k e =
    let a = and_parts (is_counted l) (are_counted (ks ++ k ∷ [])) e in
    let r = one_or_more ks k a.1 in
    (and_from (is_counted l) (are_counted ks) a.0 r.0, r.1)

shows_more : (ks : List RuleKind) (k : RuleKind) (p : Plan) → shows_one ks p ≡ false → shows_one (k ∷ []) p ≡ false → shows_one (ks ++ k ∷ []) p ≡ false
shows_more [] k p e f = f
shows_more (l ∷ ks) k p e f =
    let a = or_parts (shows l p) (shows_one ks p) e in
    at (shows l p) (shows_one (ks ++ k ∷ []) p) a.0 (shows_more ks k p a.1 f)
  where
    at : (a b : Bool) → a ≡ false → b ≡ false → (a || b) ≡ false
    at false b x y = y
    at true b x y = cc

pub top_next : (ks : List RuleKind) (k : RuleKind) (r q p : Plan) (d e : Done) → Reworked ks q p d → (d.changed ≡ false → shows_one ks q ≡ false) → Reworked (k ∷ []) r q e → (e.changed ≡ false → shows_one (k ∷ []) r ≡ false) → Reworked (ks ++ k ∷ []) r p (both d e) × ((both d e).changed ≡ false → shows_one (ks ++ k ∷ []) r ≡ false)
top_next ks k r q p d e h quiet j still =
    let all = ks ++ k ∷ [] in (
      reworks_trans all (more r no_roses) (more q no_roses) (more p no_roses) d e
          (reworks_weaker ks all (more q no_roses) (more p no_roses) d (λ c. (one_or_more ks k c).0) h)
          (reworks_weaker (k ∷ []) all (more r no_roses) (more q no_roses) e (λ c. (one_or_more ks k c).1) j),
      (λ n. let a = or_parts d.changed e.changed n in shows_more ks k r (one_cleared ks r q (alone r q (j.still a.1)) (quiet a.0)) (still a.1)),
    )
  where
    alone : (q' p' : Plan) → AreCleared (more q' no_roses) (more p' no_roses) → Cleared q' p'
    alone (rose m o us) (rose n op ts) x = (x.0, x.1)
