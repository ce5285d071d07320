-- The expressions of an addition over another that have to stay: the least set, and its rounds.
use Rattle.std.proofs.Common.{◌≡◌, ◌∙◌, ◌<◌, ◌≤◌, ℕ, zero, suc, Bool, true, false, not, ◌&&◌, ◌||◌, cond, List, [], ◌∷◌, length, refl, sym, ap, ap₂, subst, ◌⊎◌, inl, inr, ⊎_elim, arith}
use Rattle.std.specs.List.{AllByRecursion, filter as only_where}
use Rattle.std.proofs.lemmas.Bool.{and_parts as parts_of, both_ways, or_cases, or_left, or_right}
use Rattle.plan_core.specs.Names.{has, AreDistinct}
use Rattle.plan_expr.specs.Exprs.{Named}
use Rattle.plan_expr.specs.Leaves.{Name, leaves}
use Rattle.plan_frame.specs.ExprLists.{out_names, all_leaves}
use Rattle.plan_frame.proofs.NameSets.{has_cons, has_first, has_later, has_front, has_back, has_either, distinct_cons}
use Rattle.plan_collapse_laws.specs.Staying.{HoldsStaying, awaited, reading, remaking, out, reads_one, IsOne, Stays, stays_beside, staying, stays}

pub one_all : (P : Named → Type 0) (es : List Named) → ((e : Named) → IsOne e es → P e) → AllByRecursion P es
one_all P [] by = tt
one_all P (e ∷ es) by = (by e (inl refl), one_all P es (λ d i. by d (inr i)))

pub one_of : (P : Named → Type 0) (es : List Named) (e : Named) → IsOne e es → AllByRecursion P es → P e
one_of P [] e i h = absurd i
one_of P (d ∷ es) e i h = ⊎_elim (λ q. subst P (sym q) h.0) (λ j. one_of P es e j h.1) i

-- the name of one that passes is among theirs
pub passing_named : (p : Named → Bool) (es : List Named) (e : Named) → IsOne e es → p e ≡ true → has (out_names (only_where p es)) (out e) ≡ true
passing_named p [] e i k = absurd i
passing_named p (d ∷ es) e i k = at (p d) refl i (λ j. passing_named p es e j k)
  where
    at : (t : Bool) → p d ≡ t → (e ≡ d) ⊎ IsOne e es → (IsOne e es → has (out_names (only_where p es)) (out e) ≡ true) → has (out_names (cond t (d ∷ only_where p es) (only_where p es))) (out e) ≡ true
    at true q (inl s) rest = ap (λ (x : Named). has (out x ∷ out_names (only_where p es)) (out e)) (sym s) ∙ has_first (out e) (out_names (only_where p es))
    at true q (inr j) rest = has_later (out d) (out_names (only_where p es)) (out e) (rest j)
    at false q (inl s) rest = absurd (both_ways (p d) q (ap p (sym s) ∙ k))
    at false q (inr j) rest = rest j

-- and a name among them is that of one that passes
pub named_passing : (p : Named → Bool) (es : List Named) (b : Name) → has (out_names (only_where p es)) b ≡ true → (e : Named) × IsOne e es × (p e ≡ true) × (b ≡ out e)
named_passing p [] b i = cc
named_passing p (d ∷ es) b i = at (p d) refl i (λ j. let x = named_passing p es b j in (x.0, inr x.1, x.2, x.3))
  where
    at : (t : Bool) → p d ≡ t → has (out_names (cond t (d ∷ only_where p es) (only_where p es))) b ≡ true → (has (out_names (only_where p es)) b ≡ true → (e : Named) × ((e ≡ d) ⊎ IsOne e es) × (p e ≡ true) × (b ≡ out e)) → (e : Named) × ((e ≡ d) ⊎ IsOne e es) × (p e ≡ true) × (b ≡ out e)
    at true q j rest = ⊎_elim (λ s. (d, inl refl, q, s)) (λ k. rest k) (has_cons (out d) (out_names (only_where p es)) b j)
    at false q j rest = rest j

-- of distinct names each is of one expression
same_one : (es : List Named) (d e : Named) → AreDistinct (out_names es) → IsOne d es → IsOne e es → out d ≡ out e → d ≡ e
same_one [] d e once i j s = absurd i
same_one (x ∷ es) d e once i j s = at i j (λ k l. same_one es d e (distinct_cons (out x) (out_names es) once).1 k l s)
  where
    p : (has (out_names es) (out x) ≡ false) × AreDistinct (out_names es)
    p = distinct_cons (out x) (out_names es) once

    there : (y : Named) → IsOne y es → has (out_names es) (out y) ≡ true
    there y k = go es k
      where
        go : (zs : List Named) → IsOne y zs → has (out_names zs) (out y) ≡ true
        go [] k = absurd k
        go (z ∷ zs) (inl q) = ap (λ (w : Named). has (out w ∷ out_names zs) (out y)) (sym q) ∙ has_first (out y) (out_names zs)
        go (z ∷ zs) (inr k) = has_later (out z) (out_names zs) (out y) (go zs k)

    at : (d ≡ x) ⊎ IsOne d es → (e ≡ x) ⊎ IsOne e es → (IsOne d es → IsOne e es → d ≡ e) → d ≡ e
    at (inl q) (inl r) rest = q ∙ sym r
    at (inl q) (inr k) rest = absurd (both_ways (has (out_names es) (out x)) p.0 (ap (has (out_names es)) (sym (ap out q) ∙ s) ∙ there e k))
    at (inr k) (inl r) rest = absurd (both_ways (has (out_names es) (out x)) p.0 (ap (has (out_names es)) (sym (ap out r) ∙ sym s) ∙ there d k))
    at (inr k) (inr l) rest = rest k l

-- a leaf of some expressions is one of an expression among them
leaf_from : (p : Named → Bool) (es : List Named) (b : Name) → has (all_leaves (only_where p es)) b ≡ true → (d : Named) × IsOne d es × (p d ≡ true) × (has (leaves d.expr) b ≡ true)
leaf_from p [] b i = cc
leaf_from p (x ∷ es) b i = at (p x) refl i (λ j. let y = leaf_from p es b j in (y.0, inr y.1, y.2, y.3))
  where
    at : (t : Bool) → p x ≡ t → has (all_leaves (cond t (x ∷ only_where p es) (only_where p es))) b ≡ true → (has (all_leaves (only_where p es)) b ≡ true → (d : Named) × ((d ≡ x) ⊎ IsOne d es) × (p d ≡ true) × (has (leaves d.expr) b ≡ true)) → (d : Named) × ((d ≡ x) ⊎ IsOne d es) × (p d ≡ true) × (has (leaves d.expr) b ≡ true)
    at true q j rest = ⊎_elim (λ k. (x, inl refl, q, k)) (λ k. rest k) (has_either (leaves x.expr) (all_leaves (only_where p es)) b j)
    at false q j rest = rest j

leaf_to : (p : Named → Bool) (es : List Named) (d : Named) (b : Name) → IsOne d es → p d ≡ true → has (leaves d.expr) b ≡ true → has (all_leaves (only_where p es)) b ≡ true
leaf_to p [] d b i k l = absurd i
leaf_to p (x ∷ es) d b i k l = at (p x) refl i (λ j. leaf_to p es d b j k l)
  where
    at : (t : Bool) → p x ≡ t → (d ≡ x) ⊎ IsOne d es → (IsOne d es → has (all_leaves (only_where p es)) b ≡ true) → has (all_leaves (cond t (x ∷ only_where p es) (only_where p es))) b ≡ true
    at true q (inl s) rest = has_front (leaves x.expr) (all_leaves (only_where p es)) b (ap (λ (y : Named). has (leaves y.expr) b) (sym s) ∙ l)
    at true q (inr j) rest = has_back (leaves x.expr) (all_leaves (only_where p es)) b (rest j)
    at false q (inl s) rest = absurd (both_ways (p x) q (ap p (sym s) ∙ k))
    at false q (inr j) rest = rest j

-- how many pass

few : (p : Named → Bool) (es : List Named) → length (only_where p es) ≤ length es
few p [] = omega arith
few p (e ∷ es) = at (p e) (few p es)
  where
    at : (t : Bool) → length (only_where p es) ≤ length es → length (cond t (e ∷ only_where p es) (only_where p es)) ≤ suc (length es)
    at true h = omega (arith, h)
    at false h = omega (arith, h)

-- where all that pass one test pass another, as many pass it or more, and as many only where the same do
more-pass : (p q : Named → Bool) (es : List Named) → AllByRecursion (λ (e : Named). p e ≡ true → q e ≡ true) es → (only_where p es ≡ only_where q es) ⊎ (length (only_where p es) < length (only_where q es))
more-pass p q [] h = inl refl
more-pass p q (e ∷ es) h = at (p e) (q e) h.0 (more-pass p q es h.1)
  where
    at : (t u : Bool) → (t ≡ true → u ≡ true) → (only_where p es ≡ only_where q es) ⊎ (length (only_where p es) < length (only_where q es)) → (cond t (e ∷ only_where p es) (only_where p es) ≡ cond u (e ∷ only_where q es) (only_where q es)) ⊎ (length (cond t (e ∷ only_where p es) (only_where p es)) < length (cond u (e ∷ only_where q es) (only_where q es)))
    at true true k (inl s) = inl (ap (λ (xs : List Named). e ∷ xs) s)
    at true true k (inr l) = inr (omega (arith, l))
    at true false k r = absurd (both_ways false refl (k refl))
    at false true k (inl s) = inr (let n : length (only_where p es) ≡ length (only_where q es) = ap length s in omega (arith, n))
    at false true k (inr l) = inr (omega (arith, l))
    at false false k r = r

length-out : (es : List Named) → length (out_names es) ≡ length es
length-out [] = refl
length-out (e ∷ es) = ap suc (length-out es)

module _ (es : List Named) (lower : List Name) where
  abbrev next : List Name → Named → Bool
  next names = stays_beside es lower names

  abbrev round : ℕ → List Name
  round n = staying es lower n

  -- a round keeps what the rounds before found
  next_more : (xs ys : List Name) → AllByRecursion (λ (e : Named). has xs (out e) ≡ true → has ys (out e) ≡ true) es → (e : Named) → next xs e ≡ true → next ys e ≡ true
  next_more xs ys sub e k =
      ⊎_elim (λ f. or_left (reads_one lower e || (has lower (out e) && has (all_leaves es) (out e))) _ f)
      (λ g. or_right (reads_one lower e || (has lower (out e) && has (all_leaves es) (out e))) _ (
      let p = parts_of (not (has lower (out e))) (has (all_leaves (only_where (λ (d : Named). has xs (out d)) es)) (out e)) g in
      let x = leaf_from (λ (d : Named). has xs (out d)) es (out e) p.1 in
      ap₂ (λ (a b : Bool). a && b) p.0 (leaf_to (λ (d : Named). has ys (out d)) es x.0 (out e) x.1 (one_of (λ (d : Named). has xs (out d) ≡ true → has ys (out d) ≡ true) es x.0 x.1 sub x.2) x.3)))
      (or_cases (reads_one lower e || (has lower (out e) && has (all_leaves es) (out e))) (not (has lower (out e)) && has (all_leaves (only_where (λ (d : Named). has xs (out d)) es)) (out e)) k)

  grows : (n : ℕ) (b : Name) → has (round n) b ≡ true → has (round (suc n)) b ≡ true
  grows zero b i = cc
  grows (suc n) b i =
      let x = named_passing (next (round n)) es b i in
      ap (has (round (suc (suc n)))) x.3
      ∙ passing_named (next (round (suc n))) es x.0 x.1 (next_more (round n) (round (suc n)) (one_all (λ (e : Named). has (round n) (out e) ≡ true → has (round (suc n)) (out e) ≡ true) es (λ e j. grows n (out e))) x.0 x.2)

  step_grows : (n : ℕ) → (round (suc n) ≡ round (suc (suc n))) ⊎ (length (round (suc n)) < length (round (suc (suc n))))
  step_grows n =
      ⊎_elim (λ s. inl (ap out_names s))
      (λ l. inr (let a = length-out (only_where (next (round n)) es) in let b = length-out (only_where (next (round (suc n))) es) in omega (arith, l, a, b)))
      (more-pass (next (round n)) (next (round (suc n))) es
      (one_all (λ (e : Named). next (round n) e ≡ true → next (round (suc n)) e ≡ true) es
      (λ e i. next_more (round n) (round (suc n)) (one_all (λ (d : Named). has (round n) (out d) ≡ true → has (round (suc n)) (out d) ≡ true) es (λ d j. grows n (out d))) e)))

  -- after a round that finds nothing new none does
  fixed : (n : ℕ) → (round n ≡ round (suc n)) ⊎ (n < length (round (suc n)))
  fixed zero = at (round 1) refl
    where
      at : (ns : List Name) → round 1 ≡ ns → ([] ≡ round 1) ⊎ (0 < length (round 1))
      at [] e = inl (sym e)
      at (x ∷ ns) e = inr (let q : length (round 1) ≡ suc (length ns) = ap length e in omega (arith, q))
  fixed (suc n) = at (fixed n)
    where
      at : (round n ≡ round (suc n)) ⊎ (n < length (round (suc n))) → (round (suc n) ≡ round (suc (suc n))) ⊎ (suc n < length (round (suc (suc n))))
      at (inl s) = inl (ap (λ (ns : List Name). out_names (only_where (next ns) es)) s)
      at (inr l) = ⊎_elim (λ s. inl s) (λ m. inr (omega (arith, l, m))) (step_grows n)

  pub found-all : round (length es) ≡ round (suc (length es))
  found-all = at (fixed (length es))
    where
      at : (round (length es) ≡ round (suc (length es))) ⊎ (length es < length (round (suc (length es)))) → round (length es) ≡ round (suc (length es))
      at (inl s) = s
      at (inr l) = absurd (let a = length-out (only_where (next (round (length es))) es) in let b = few (next (round (length es))) es in omega (arith, l, a, b))

  stays_next : (e : Named) → IsOne e es → next (round (length es)) e ≡ true → stays es lower e ≡ true
  stays_next e i k = ap (λ (ns : List Name). has ns (out e)) found-all ∙ passing_named (next (round (length es))) es e i k

  -- the rounds find a set that holds what has to stay
  pub holds-staying : HoldsStaying es lower (stays es lower)
  holds-staying = record {
    reading = one_all (λ (e : Named). reads_one lower e ≡ true → stays es lower e ≡ true) es (λ e i k. stays_next e i (or_left (reads_one lower e || (has lower (out e) && has (all_leaves es) (out e))) _ (or_left (reads_one lower e) _ k)));
    remaking = one_all (λ (e : Named). has lower (out e) ≡ true → has (all_leaves es) (out e) ≡ true → stays es lower e ≡ true) es
        (λ e i k l. stays_next e i (or_left (reads_one lower e || (has lower (out e) && has (all_leaves es) (out e))) _ (or_right (reads_one lower e) _ (ap₂ (λ (a b : Bool). a && b) k l))));
    awaited = one_all (λ (d : Named). stays es lower d ≡ true → AllByRecursion (λ (e : Named). has lower (out e) ≡ false → has (leaves d.expr) (out e) ≡ true → stays es lower e ≡ true) es) es
        (λ d j s. one_all (λ (e : Named). has lower (out e) ≡ false → has (leaves d.expr) (out e) ≡ true → stays es lower e ≡ true) es
        (λ e i k l. stays_next e i (or_right (reads_one lower e || (has lower (out e) && has (all_leaves es) (out e))) _ (ap₂ (λ (a b : Bool). not a && b) k (leaf_to (λ (x : Named). has (round (length es)) (out x)) es d (out e) j s l)))));
  }

  -- each set that holds what has to stay holds the least one
  pub least : (stay : Named → Bool) → HoldsStaying es lower stay → (e : Named) → Stays es lower e → stay e ≡ true
  least stay h e (reading _ i k) = one_of (λ (x : Named). reads_one lower x ≡ true → stay x ≡ true) es e i h.reading k
  least stay h e (remaking _ i k l) = one_of (λ (x : Named). has lower (out x) ≡ true → has (all_leaves es) (out x) ≡ true → stay x ≡ true) es e i h.remaking k l
  least stay h e (awaited d _ s i k l) =
      one_of (λ (x : Named). has lower (out x) ≡ false → has (leaves d.expr) (out x) ≡ true → stay x ≡ true) es e i
      (one_of (λ (x : Named). stay x ≡ true → AllByRecursion (λ (y : Named). has lower (out y) ≡ false → has (leaves x.expr) (out y) ≡ true → stay y ≡ true) es) es d (is_one d s) h.awaited (least stay h d s)) k l
    where
      is_one : (x : Named) → Stays es lower x → IsOne x es
      is_one x (reading _ j m) = j
      is_one x (remaking _ j m o) = j
      is_one x (awaited y _ r j m o) = j

  -- and the rounds find no more
  module _ (once : AreDistinct (out_names es)) where
    pub only-staying : (n : ℕ) (e : Named) → IsOne e es → has (round n) (out e) ≡ true → Stays es lower e
    only-staying zero e i h = cc
    only-staying (suc n) e i h =
        let x = named_passing (next (round n)) es (out e) h in
        let same : x.0 ≡ e = same_one es x.0 e once x.1 i (sym x.3) in
        let k : next (round n) e ≡ true = ap (next (round n)) (sym same) ∙ x.2 in
        ⊎_elim
        (λ f. ⊎_elim (λ r. reading e i r) (λ m. let p = parts_of (has lower (out e)) (has (all_leaves es) (out e)) m in remaking e i p.0 p.1) (or_cases (reads_one lower e) (has lower (out e) && has (all_leaves es) (out e)) f))
        (λ g.
        let p = parts_of (not (has lower (out e))) (has (all_leaves (only_where (λ (d : Named). has (round n) (out d)) es)) (out e)) g in
        let y = leaf_from (λ (d : Named). has (round n) (out d)) es (out e) p.1 in
        awaited y.0 e (only-staying n y.0 y.1 y.2) i (not_holds (has lower (out e)) p.0) y.3)
        (or_cases (reads_one lower e || (has lower (out e) && has (all_leaves es) (out e))) (not (has lower (out e)) && has (all_leaves (only_where (λ (d : Named). has (round n) (out d)) es)) (out e)) k)
      where
        not_holds : (b : Bool) → not b ≡ true → b ≡ false
        not_holds true q = cc
        not_holds false q = refl
