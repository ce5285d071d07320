-- Two additions that meet leave fewer additions below expressions, or fewer additions, or are as they were; and no more nodes come than go from these.
use Rattle.std.proofs.Common.{◌≡◌, ◌∙◌, ◌++◌, ◌+◌, ◌<◌, ◌≤◌, ℕ, zero, suc, Bool, true, false, not, ◌&&◌, cond, List, [], ◌∷◌, length, Option, Some, None, refl, sym, ap, ap₂, subst, ◌⊎◌, inl, inr, arith, length-append}
use Rattle.std.specs.List.{filter as only_where}
use Rattle.plan_tree.specs.Rose.{Roses, rose, no_roses, more, size}
use Rattle.plan_core.specs.Columns.{Columns}
use Rattle.plan_expr.specs.Exprs.{Named}
use Rattle.plan_expr.specs.Leaves.{Name}
use Rattle.plan_core.specs.Names.{has}
use Rattle.plan_frame.specs.ExprLists.{out_names}
use Rattle.plan_ir.specs.Plans.{Op, slice, filter, scan, frame_scan, simple_projection, select, hstack, sort, group_by, join, distinct, map_function, sink, union, hconcat, cache, invalid, Plan}
use Rattle.plan_meaning.specs.Checks.{is_empty}
use Rattle.plan_collapse_laws.specs.Staying.{out, stays}
use Rattle.plan_collapse_laws.specs.Meeting.{replaced, takes_place, moves_down, stayed, taking, moving, leaves_order, sunk_into, left_above, as_one, restored_if, met}
use Rattle.plan_collapse_laws.specs.Additions.{Addition, addition_of, as_op, added, one_if_added}
use Rattle.plan_collapse_laws.specs.Counts.{additions, times, placing_in}

-- products

times_more : (a b k : ℕ) → times (a + b) k ≡ times a k + times b k
times_more zero b k = let e : 0 + b ≡ b = omega arith in let f : times b k ≡ 0 + times b k = omega arith in ap (λ (n : ℕ). times n k) e ∙ f
times_more (suc a) b k = let e : suc a + b ≡ suc (a + b) = omega arith in let h = times_more a b k in ap (λ (n : ℕ). times n k) e ∙ (let f : k + times (a + b) k ≡ (k + times a k) + times b k = omega (arith, h) in f)

times_up : (n a b : ℕ) → a ≤ b → times n a ≤ times n b
times_up zero a b h = omega arith
times_up (suc n) a b h = let k = times_up n a b h in omega (arith, h, k)

times_suc : (n k : ℕ) → times n (suc k) ≡ n + times n k
times_suc zero k = refl
times_suc (suc n) k = let h = times_suc n k in omega (arith, h)

-- how the expressions of an addition are shared out

module _ (lower : List Name) (stay : Named → Bool) where
  shared : (es : List Named) → length es ≡ length (only_where stay es) + (length (only_where (takes_place lower stay) es) + length (only_where (moves_down lower stay) es))
  shared [] = refl
  shared (e ∷ es) = at (stay e) (has lower (out e)) (shared es)
    where
      at : (b c : Bool) → length es ≡ length (only_where stay es) + (length (only_where (takes_place lower stay) es) + length (only_where (moves_down lower stay) es)) → suc (length es) ≡ length (cond b (e ∷ only_where stay es) (only_where stay es)) + (length (cond (not b && c) (e ∷ only_where (takes_place lower stay) es) (only_where (takes_place lower stay) es)) + length (cond (not b && not c) (e ∷ only_where (moves_down lower stay) es) (only_where (moves_down lower stay) es)))
      at true c h = omega (arith, h)
      at false true h = omega (arith, h)
      at false false h = omega (arith, h)

length-replaced : (upper lower : List Named) → length (replaced upper lower) ≡ length lower
length-replaced upper [] = refl
length-replaced upper (l ∷ lower) = ap suc (length-replaced upper lower)

module _ (u l : Addition) where
  upper_shared : length u.exprs ≡ length (stayed u l) + (length (taking u l) + length (moving u l))
  upper_shared = shared (out_names l.exprs) (stays u.exprs (out_names l.exprs)) u.exprs

  length-sunk : length (sunk_into u l).exprs ≡ length l.exprs + length (moving u l)
  length-sunk = length-append (replaced (taking u l) l.exprs) (moving u l) ∙ ap (λ (n : ℕ). n + length (moving u l)) (length-replaced (taking u l) l.exprs)

-- what is counted of plans

abbrev nodes_in : Roses (Unit {0}) Op → ℕ
nodes_in ts = size ts

abbrev pub one_node : Plan → Roses (Unit {0}) Op
one_node p = more p no_roses

-- a plan with fewer nodes and additions below expressions in all, and no more additions, which is the other or has fewer of the latter two
pub record Lighter (q p : Plan) : Type 0 where
  pub sized : size (one_node q) + placing_in (one_node q) ≤ size (one_node p) + placing_in (one_node p)
  pub fewer : additions (one_node q) ≤ additions (one_node p)
  pub placed : placing_in (one_node q) ≤ placing_in (one_node p)
  pub moved : (q ≡ p) ⊎ (placing_in (one_node q) + additions (one_node q) < placing_in (one_node p) + additions (one_node p))

pub record AllLighter (qs ps : Roses (Unit {0}) Op) : Type 0 where
  pub sized : size qs + placing_in qs ≤ size ps + placing_in ps
  pub fewer : additions qs ≤ additions ps
  pub placed : placing_in qs ≤ placing_in ps
  pub moved : (qs ≡ ps) ⊎ (placing_in qs + additions qs < placing_in ps + additions ps)

-- a node over lighter plans is lighter
pub node_lighter : (op : Op) (qs ps : Roses (Unit {0}) Op) → AllLighter qs ps → Lighter (rose tt op qs) (rose tt op ps)
node_lighter op qs ps h =
    let n = length (added (addition_of op)) in
    let k = one_if_added (addition_of op) in
    let a = h.sized in
    let b = h.fewer in
    let c = h.placed in
    let d = times_up n (additions qs) (additions ps) b in
    record {
      sized = omega (arith, a, d);
      fewer = omega (arith, b);
      placed = omega (arith, c, d);
      moved = at h.moved;
    }
  where
    at : (qs ≡ ps) ⊎ (placing_in qs + additions qs < placing_in ps + additions ps) → (rose tt op qs ≡ rose tt op ps) ⊎ (placing_in (one_node (rose tt op qs)) + additions (one_node (rose tt op qs)) < placing_in (one_node (rose tt op ps)) + additions (one_node (rose tt op ps)))
    at (inl e) = inl (ap (rose tt op) e)
    at (inr l) = inr (let d = times_up (length (added (addition_of op))) (additions qs) (additions ps) h.fewer in omega (arith, l, d))

pub one_lighter : (q p : Plan) → Lighter q p → AllLighter (one_node q) (one_node p)
one_lighter q p h = record {
  sized = h.sized;
  fewer = h.fewer;
  placed = h.placed;
  moved = at h.moved;
}
  where
    at : (q ≡ p) ⊎ (placing_in (one_node q) + additions (one_node q) < placing_in (one_node p) + additions (one_node p)) → (one_node q ≡ one_node p) ⊎ (placing_in (one_node q) + additions (one_node q) < placing_in (one_node p) + additions (one_node p))
    at (inl e) = inl (ap one_node e)
    at (inr l) = inr l

pub both_lighter : (q p : Plan) (qs ps : Roses (Unit {0}) Op) → Lighter q p → AllLighter qs ps → AllLighter (more q qs) (more p ps)
both_lighter (rose m o us) (rose n op ts) qs ps h k =
    let a = h.sized in let b = h.fewer in let c = h.placed in
    let x = k.sized in let y = k.fewer in let z = k.placed in
    record {
      sized = omega (arith, a, x);
      fewer = omega (arith, b, y);
      placed = omega (arith, c, z);
      moved = at h.moved k.moved;
    }
  where
    at : (rose m o us ≡ rose n op ts) ⊎ (placing_in (one_node (rose m o us)) + additions (one_node (rose m o us)) < placing_in (one_node (rose n op ts)) + additions (one_node (rose n op ts))) → (qs ≡ ps) ⊎ (placing_in qs + additions qs < placing_in ps + additions ps) → (more (rose m o us) qs ≡ more (rose n op ts) ps) ⊎ (placing_in (more (rose m o us) qs) + additions (more (rose m o us) qs) < placing_in (more (rose n op ts) ps) + additions (more (rose n op ts) ps))
    at (inl e) (inl f) = inl (ap₂ (λ (p : Plan) (ts : Roses (Unit {0}) Op). more p ts) e f)
    at (inl e) (inr l) = inr (let b = h.fewer in let c = h.placed in omega (arith, b, c, l))
    at (inr l) r = inr (let y = k.fewer in let z = k.placed in omega (arith, l, y, z))

pub same_lighter : (p : Plan) → Lighter p p
same_lighter p = record { sized = omega arith; fewer = omega arith; placed = omega arith; moved = inl refl }

-- an addition on another, over what is lighter in the place of the other

none_left : {X : Type 0} (xs : List X) → is_empty xs ≡ true → length xs ≡ 0
none_left [] e = refl
none_left (x ∷ xs) e = cc

pub some_left : {X : Type 0} (xs ys : List X) → is_empty (xs ++ ys) ≡ false → 0 < length xs + length ys
some_left [] [] e = cc
some_left [] (y ∷ ys) e = omega arith
some_left (x ∷ xs) ys e = omega arith

module _ (u l : Addition) (ts : Roses (Unit {0}) Op) (below : Addition → Plan) (h : (x : Addition) → Lighter (below x) (rose tt (as_op x) ts)) where
  abbrev given : Plan
  given = rose tt (as_op u) (one_node (rose tt (as_op l) ts))

  restored_size : (b : Bool) (s : Columns) (q : Plan) → (size (one_node (restored_if b s q)) ≤ 1 + size (one_node q)) × (placing_in (one_node (restored_if b s q)) ≡ placing_in (one_node q)) × (additions (one_node (restored_if b s q)) ≡ additions (one_node q))
  restored_size true s (rose n op us) = (omega arith, omega arith, omega arith)
  restored_size false s (rose n op us) = (omega arith, refl, refl)

  -- what is counted of an addition on the plans below, and of both
  node_size : (x : Addition) (us : Roses (Unit {0}) Op) → size (one_node (rose tt (as_op x) us)) ≡ 1 + size us
  node_size x us = let e : 1 + size us + 0 ≡ 1 + size us = omega arith in e

  node_additions : (x : Addition) (us : Roses (Unit {0}) Op) → additions (one_node (rose tt (as_op x) us)) ≡ suc (additions us)
  node_additions x us = let e : 1 + (additions us + 0) ≡ suc (additions us) = omega arith in e

  node_placing : (x : Addition) (us : Roses (Unit {0}) Op) → placing_in (one_node (rose tt (as_op x) us)) ≡ times (length x.exprs) (additions us) + placing_in us
  node_placing x us = let e : times (length x.exprs) (additions us) + (placing_in us + 0) ≡ times (length x.exprs) (additions us) + placing_in us = omega arith in e

  over_placing : (x : Addition) (q : Plan) (n : ℕ) → additions (one_node q) ≡ n → placing_in (one_node (rose tt (as_op x) (one_node q))) ≡ times (length x.exprs) n + placing_in (one_node q)
  over_placing x q n e = node_placing x (one_node q) ∙ ap (λ (k : ℕ). times (length x.exprs) k + placing_in (one_node q)) e

  given_size : size (one_node given) ≡ 2 + size ts
  given_size = node_size u (one_node (rose tt (as_op l) ts)) ∙ ap (λ (n : ℕ). 1 + n) (node_size l ts) ∙ (let e : 1 + (1 + size ts) ≡ 2 + size ts = omega arith in e)

  given_additions : additions (one_node given) ≡ suc (suc (additions ts))
  given_additions = node_additions u (one_node (rose tt (as_op l) ts)) ∙ ap suc (node_additions l ts)

  given_placing : placing_in (one_node given) ≡ times (length u.exprs) (suc (additions ts)) + (times (length l.exprs) (additions ts) + placing_in ts)
  given_placing = over_placing u (rose tt (as_op l) ts) (suc (additions ts)) (node_additions l ts) ∙ ap (λ (n : ℕ). times (length u.exprs) (suc (additions ts)) + n) (node_placing l ts)

  -- the numbers alone
  numbers_one : (bs bp ba xs xp xa gs gp ga s p a tl tm tu tu1 tt0 tk n0 n1 n2 U : ℕ) → bs + bp ≤ xs + xp → bp ≤ xp → ba ≤ xa → xs ≡ 1 + s → xp ≡ (tl + tm) + p → xa ≡ suc a → gs ≡ 2 + s → gp ≡ tu1 + (tl + p) → ga ≡ suc (suc a) → tu1 ≡ U + tu → tu ≡ tt0 + (tk + tm) → (bs + bp ≤ gs + gp) × (ba ≤ ga) × (bp ≤ gp) × (bp + ba < gp + ga)
  numbers_one bs bp ba xs xp xa gs gp ga s p a tl tm tu tu1 tt0 tk n0 n1 n2 U h1 h2 h3 e1 e2 e3 e4 e5 e6 e7 e8 = (omega arith, omega arith, omega arith, omega arith)

  numbers_some : (rs rp ra bs bp ba xs xp xa gs gp ga s p a tl tm tu tu1 tt0 tt1 tk tb n0 n1 n2 U : ℕ) → rs ≤ 1 + (1 + bs) → rp ≡ tb + bp → ra ≡ suc ba → bs + bp ≤ xs + xp → bp ≤ xp → ba ≤ xa → xs ≡ 1 + s → xp ≡ (tl + tm) + p → xa ≡ suc a → gs ≡ 2 + s → gp ≡ tu1 + (tl + p) → ga ≡ suc (suc a) → tu1 ≡ U + tu → tu ≡ tt0 + (tk + tm) → U ≡ n0 + (n2 + n1) → 0 < n2 + n1 → tb ≤ tt1 → tt1 ≡ n0 + tt0 → (rs + rp ≤ gs + gp) × (ra ≤ ga) × (rp ≤ gp) × (rp + ra < gp + ga)
  numbers_some rs rp ra bs bp ba xs xp xa gs gp ga s p a tl tm tu tu1 tt0 tt1 tk tb n0 n1 n2 U h0 i0 j0 h1 h2 h3 e1 e2 e3 e4 e5 e6 e7 e8 e9 h4 h5 e10 = (omega arith, omega arith, omega arith, omega arith)

  sunk_times : times (length (sunk_into u l).exprs) (additions ts) ≡ times (length l.exprs) (additions ts) + times (length (moving u l)) (additions ts)
  sunk_times = ap (λ (n : ℕ). times n (additions ts)) (length-sunk u l) ∙ times_more (length l.exprs) (length (moving u l)) (additions ts)

  upper_times : times (length u.exprs) (additions ts) ≡ times (length (stayed u l)) (additions ts) + (times (length (taking u l)) (additions ts) + times (length (moving u l)) (additions ts))
  upper_times = ap (λ (n : ℕ). times n (additions ts)) (upper_shared u l) ∙ times_more (length (stayed u l)) (length (taking u l) + length (moving u l)) (additions ts) ∙ ap (λ (n : ℕ). times (length (stayed u l)) (additions ts) + n) (times_more (length (taking u l)) (length (moving u l)) (additions ts))

  below_placing : (x : Addition) → x.exprs ≡ (sunk_into u l).exprs → placing_in (one_node (rose tt (as_op x) ts)) ≡ (times (length l.exprs) (additions ts) + times (length (moving u l)) (additions ts)) + placing_in ts
  below_placing x e = node_placing x ts ∙ ap (λ (es : List Named). times (length es) (additions ts) + placing_in ts) e ∙ ap (λ (n : ℕ). n + placing_in ts) sunk_times

  one_counts : (size (one_node (below (as_one u l))) + placing_in (one_node (below (as_one u l))) ≤ size (one_node given) + placing_in (one_node given)) × (additions (one_node (below (as_one u l))) ≤ additions (one_node given)) × (placing_in (one_node (below (as_one u l))) ≤ placing_in (one_node given)) × (placing_in (one_node (below (as_one u l))) + additions (one_node (below (as_one u l))) < placing_in (one_node given) + additions (one_node given))
  one_counts =
      let x = as_one u l in
      let k = h x in
      numbers_one (size (one_node (below x))) (placing_in (one_node (below x))) (additions (one_node (below x)))
      (size (one_node (rose tt (as_op x) ts))) (placing_in (one_node (rose tt (as_op x) ts))) (additions (one_node (rose tt (as_op x) ts)))
      (size (one_node given)) (placing_in (one_node given)) (additions (one_node given))
      (size ts) (placing_in ts) (additions ts) (times (length l.exprs) (additions ts)) (times (length (moving u l)) (additions ts))
      (times (length u.exprs) (additions ts)) (times (length u.exprs) (suc (additions ts))) (times (length (stayed u l)) (additions ts)) (times (length (taking u l)) (additions ts))
      0 0 0 (length u.exprs)
      k.sized k.placed k.fewer (node_size x ts) (below_placing x refl) (node_additions x ts) given_size given_placing given_additions
      (times_suc (length u.exprs) (additions ts)) upper_times

  pub one_met : Lighter (below (as_one u l)) given
  one_met = let r = one_counts in record { sized = r.0; fewer = r.1; placed = r.2; moved = inr r.3 }

  pub one_strict : placing_in (one_node (below (as_one u l))) + additions (one_node (below (as_one u l))) < placing_in (one_node given) + additions (one_node given)
  one_strict = let r = one_counts in r.3

  still_met : Lighter (rose tt (as_op u) (one_node (below l))) given
  still_met = node_lighter (as_op u) (one_node (below l)) (one_node (rose tt (as_op l) ts)) (one_lighter (below l) (rose tt (as_op l) ts) (h l))

  some_counts : (b : Bool) (s : Columns) → 0 < length (taking u l) + length (moving u l) → (size (one_node (restored_if b s (rose tt (as_op (left_above u l)) (one_node (below (sunk_into u l)))))) + placing_in (one_node (restored_if b s (rose tt (as_op (left_above u l)) (one_node (below (sunk_into u l)))))) ≤ size (one_node given) + placing_in (one_node given)) × (additions (one_node (restored_if b s (rose tt (as_op (left_above u l)) (one_node (below (sunk_into u l)))))) ≤ additions (one_node given)) × (placing_in (one_node (restored_if b s (rose tt (as_op (left_above u l)) (one_node (below (sunk_into u l)))))) ≤ placing_in (one_node given)) × (placing_in (one_node (restored_if b s (rose tt (as_op (left_above u l)) (one_node (below (sunk_into u l)))))) + additions (one_node (restored_if b s (rose tt (as_op (left_above u l)) (one_node (below (sunk_into u l)))))) < placing_in (one_node given) + additions (one_node given))
  some_counts b s some =
      let x = sunk_into u l in
      let k = h x in
      let q = rose tt (as_op (left_above u l)) (one_node (below x)) in
      let c = restored_size b s q in
      let n0 = length (stayed u l) in
      numbers_some (size (one_node (restored_if b s q))) (placing_in (one_node (restored_if b s q))) (additions (one_node (restored_if b s q)))
      (size (one_node (below x))) (placing_in (one_node (below x))) (additions (one_node (below x)))
      (size (one_node (rose tt (as_op x) ts))) (placing_in (one_node (rose tt (as_op x) ts))) (additions (one_node (rose tt (as_op x) ts)))
      (size (one_node given)) (placing_in (one_node given)) (additions (one_node given))
      (size ts) (placing_in ts) (additions ts) (times (length l.exprs) (additions ts)) (times (length (moving u l)) (additions ts))
      (times (length u.exprs) (additions ts)) (times (length u.exprs) (suc (additions ts))) (times n0 (additions ts)) (times n0 (suc (additions ts))) (times (length (taking u l)) (additions ts))
      (times n0 (additions (one_node (below x)))) n0 (length (moving u l)) (length (taking u l)) (length u.exprs)
      (subst (λ (n : ℕ). size (one_node (restored_if b s q)) ≤ 1 + n) (node_size (left_above u l) (one_node (below x))) c.0)
      (c.1 ∙ node_placing (left_above u l) (one_node (below x)))
      (c.2 ∙ node_additions (left_above u l) (one_node (below x)))
      k.sized k.placed k.fewer (node_size x ts) (below_placing x refl) (node_additions x ts) given_size given_placing given_additions
      (times_suc (length u.exprs) (additions ts)) upper_times (upper_shared u l) some
      (times_up n0 (additions (one_node (below x))) (suc (additions ts)) (subst (λ (n : ℕ). additions (one_node (below x)) ≤ n) (node_additions x ts) k.fewer))
      (times_suc n0 (additions ts))

  pub some_met : (b : Bool) (s : Columns) → 0 < length (taking u l) + length (moving u l) → Lighter (restored_if b s (rose tt (as_op (left_above u l)) (one_node (below (sunk_into u l))))) given
  some_met b s some = let r = some_counts b s some in record { sized = r.0; fewer = r.1; placed = r.2; moved = inr r.3 }

  pub some_strict : (b : Bool) (s : Columns) → 0 < length (taking u l) + length (moving u l) → placing_in (one_node (restored_if b s (rose tt (as_op (left_above u l)) (one_node (below (sunk_into u l)))))) + additions (one_node (restored_if b s (rose tt (as_op (left_above u l)) (one_node (below (sunk_into u l)))))) < placing_in (one_node given) + additions (one_node given)
  some_strict b s some = let r = some_counts b s some in r.3

  pub met_lighter : Lighter (met u l below) given
  met_lighter = at (is_empty (stayed u l)) (is_empty (taking u l ++ moving u l)) refl
    where
      at : (b c : Bool) → is_empty (taking u l ++ moving u l) ≡ c → Lighter (cond b (below (as_one u l)) (cond c (rose tt (as_op u) (one_node (below l))) (restored_if (leaves_order u l) u.schema (rose tt (as_op (left_above u l)) (one_node (below (sunk_into u l))))))) given
      at true c e = one_met
      at false true e = still_met
      at false false e = some_met (leaves_order u l) u.schema (some_left (taking u l) (moving u l) e)

-- a node that is an addition is that

pub is_addition : (op : Op) (u : Addition) → addition_of op ≡ Some u → op ≡ as_op u
is_addition (hstack es s o) u e = let q : record { exprs = es; schema = s; options = o } ≡ u = some_is (record { exprs = es; schema = s; options = o }) u e in ap as_op q
  where
    some_is : (x y : Addition) → Some x ≡ Some y → x ≡ y
    some_is x y e = ap (λ (z : Option Addition). elim z as (λ _. Addition) [ Some w ↦ w | None ↦ x ]) e
is_addition (slice a b) u e = cc
is_addition (filter a) u e = cc
is_addition (scan a b c d f g h) u e = cc
is_addition (frame_scan a b c) u e = cc
is_addition (simple_projection a) u e = cc
is_addition (select a b c) u e = cc
is_addition (sort a b c) u e = cc
is_addition (group_by a b c d f) u e = cc
is_addition (join a b c d) u e = cc
is_addition (distinct a) u e = cc
is_addition (map_function a) u e = cc
is_addition (sink a) u e = cc
is_addition (union a) u e = cc
is_addition (hconcat a b) u e = cc
is_addition (cache a b) u e = cc
is_addition invalid u e = cc

-- what is lighter than something lighter is lighter
pub lighter_trans : (r q p : Plan) → Lighter r q → Lighter q p → Lighter r p
lighter_trans r q p h k =
    let a = h.sized in let b = h.fewer in let c = h.placed in
    let x = k.sized in let y = k.fewer in let z = k.placed in
    record { sized = omega (arith, a, x); fewer = omega (arith, b, y); placed = omega (arith, c, z); moved = at h.moved k.moved }
  where
    at : (r ≡ q) ⊎ (placing_in (one_node r) + additions (one_node r) < placing_in (one_node q) + additions (one_node q)) → (q ≡ p) ⊎ (placing_in (one_node q) + additions (one_node q) < placing_in (one_node p) + additions (one_node p)) → (r ≡ p) ⊎ (placing_in (one_node r) + additions (one_node r) < placing_in (one_node p) + additions (one_node p))
    at (inl e) (inl f) = inl (e ∙ f)
    at (inl e) (inr l) = inr (subst (λ (s : Plan). placing_in (one_node s) + additions (one_node s) < placing_in (one_node p) + additions (one_node p)) (sym e) l)
    at (inr l) f = inr (let y = k.fewer in let z = k.placed in omega (arith, l, y, z))
