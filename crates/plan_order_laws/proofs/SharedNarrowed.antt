-- Caches of one number stand over alike plans, where they did, once the sites of one number are narrowed.
use Rattle.std.proofs.Common.{◌≡◌, inl, inr, ℕ, ◌==◌, ◌&&◌, cond, Bool, true, false, List, [], ◌∷◌, ◌++◌, Option, None, Some, refl, sym, ap, ap₂, ◌∙◌, subst, append-nil}
use Rattle.plan_core.specs.Columns.{Columns, names_of}
use Rattle.plan_tree.specs.Rose.{Roses, rose, no_roses, more}
use Rattle.plan_expr.specs.Leaves.{Name}
use Rattle.plan_ir.specs.Plans.{Op, simple_projection, cache, invalid, Plan}
use Rattle.plan_meaning.specs.Caches.{AreShared, CacheOf, IsCacheOf, caches, caches_in, own_cache}
use Rattle.plan_meaning.specs.Marks.{unmarked, unmarked_all, unmarked_op}
use Rattle.plan_meaning.specs.PlanAt.{one_plan}
use Rattle.plan_meaning.specs.Steps.{IsValid}
use Rattle.plan_meaning.specs.Typing.{first_schema}
use Rattle.plan_pruned.specs.Pruned.{covered, pruned}
use Rattle.plan_pruned.proofs.AlikePruned.{covered_same, one_before, pruned_same, stored_same}
use Rattle.plan_pruned.proofs.CachesPruned.{Among, both_of, covered_caches, pruned_caches}
use Rattle.plan_order_laws.specs.CacheSites.{cut_to, names_left, read_of, renewed, under_projection}
use Rattle.plan_order_laws.specs.Handled.{handled, is_cache, narrowed, narrowed_in, renewed_if}
use Rattle.plan_pass_laws.specs.CachesLeft.{CacheMade}
use Rattle.plan_pass_laws.proofs.CachesLeft.{back_made, either_made, made_alike}
use Rattle.plan_order_laws.specs.CacheStates.{below_narrowed}
use Rattle.plan_order_laws.proofs.SharedRemoved.{cache_same, shared_removed}
use Rattle.plan_pass_laws.proofs.SmallerBelow.{never_below}

abbrev Plans : Type 0
Plans = Roses (Unit {0}) Op

-- Narrowing looks at no rechunk mark

under_same : (p : Plan) → under_projection (unmarked p) ≡ unmarked (under_projection p)
under_same (rose n (simple_projection cs) (more (rose m o us) no_roses)) = refl
under_same (rose n (simple_projection cs) no_roses) = refl
under_same (rose n (simple_projection cs) (more (rose m o us) (more (rose k q vs) rest))) = refl
under_same (rose n op ts) = refl

cut_same : (l : List Name) (p : Plan) → cut_to l (unmarked p) ≡ unmarked (cut_to l p)
cut_same [] p = refl
cut_same (a ∷ l) p = ap (covered (a ∷ l)) (under_same p) ∙ covered_same (a ∷ l) (under_projection p)

left_same : (read : Option (List Name)) (p : Plan) → names_left read (unmarked p) ≡ names_left read p
left_same read (rose n op ts) = ap (λ (ss : List Columns). read_of read (names_of (first_schema ss))) (stored_same (more (rose n op ts) no_roses))

pub renewed_same : (read : Option (List Name)) (p : Plan) → renewed read (unmarked p) ≡ unmarked (renewed read p)
renewed_same read p =
    ap (λ (l : List Name). pruned true [] (cut_to l (unmarked p))) (left_same read p)
    ∙ ap (pruned true []) (cut_same (names_left read p) p)
    ∙ pruned_same true [] (cut_to (names_left read p) p)

if_same : (b : Bool) (read : Option (List Name)) (rs : Plans) → renewed_if b read (unmarked_all rs) ≡ unmarked_all (renewed_if b read rs)
if_same false read rs = refl
if_same true read no_roses = refl
if_same true read (more (rose n op us) rest) = ap (λ (p : Plan). more p (unmarked_all rest)) (renewed_same read (rose n op us)) ∙ sym (one_before (renewed read (rose n op us)) rest)

module _ (id : ℕ) (read : Option (List Name)) where
  mutual
    pub narrowed_same : (under : Bool) (p : Plan) → narrowed id read under (unmarked p) ≡ unmarked (narrowed id read under p)
    narrowed_same under (rose n op ts) =
        ap (λ (rs : Plans). rose tt (unmarked_op op) rs)
        (ap₂ (λ (b : Bool) (rs : Plans). renewed_if (under && b) read rs) (cache_same id op) (narrowed_same_in ts)
        ∙ if_same (under && is_cache id op) read (narrowed_in id read ts))

    narrowed_same_in : (ts : Plans) → narrowed_in id read (unmarked_all ts) ≡ unmarked_all (narrowed_in id read ts)
    narrowed_same_in no_roses = refl
    narrowed_same_in (more (rose n op us) rest) =
        ap₂ (λ (p : Plan) (ps : Plans). more p ps) (narrowed_same true (rose n op us)) (narrowed_same_in rest)
        ∙ sym (one_before (narrowed id read true (rose n op us)) (narrowed_in id read rest))

  -- Each cache that is left is one that was there

  under_caches : (p : Plan) → Among (caches (under_projection p)) (caches p)
  under_caches (rose n (simple_projection cs) (more (rose m o us) no_roses)) c h = first c (caches (rose m o us)) h
    where
      first : (c : CacheOf) (xs : List CacheOf) → IsCacheOf c xs → IsCacheOf c (xs ++ [])
      first c xs h = subst (λ (l : List CacheOf). IsCacheOf c l) (sym (append-nil xs)) h
  under_caches (rose n (simple_projection cs) no_roses) c h = h
  under_caches (rose n (simple_projection cs) (more (rose m o us) (more (rose k q vs) rest))) c h = h
  under_caches (rose n op ts) c h = h

  cut_caches : (l : List Name) (p : Plan) → Among (caches (cut_to l p)) (caches p)
  cut_caches [] p c h = h
  cut_caches (a ∷ l) p c h = under_caches p c (covered_caches (a ∷ l) (under_projection p) c h)

  pub renewed_caches : (p : Plan) → Among (caches (renewed read p)) (caches p)
  renewed_caches p c h = cut_caches (names_left read p) p c (pruned_caches true [] (cut_to (names_left read p) p) c h)

  pub if_caches : (b : Bool) (rs : Plans) → Among (caches_in (renewed_if b read rs)) (caches_in rs)
  if_caches false rs c h = h
  if_caches true no_roses c h = h
  if_caches true (more p rest) c h = both_of (caches (renewed read p)) (caches_in rest) (caches p) (caches_in rest) (renewed_caches p) (λ d k. k) c h

  pub one_left : (b : Bool) (ts : Plans) → one_plan (renewed_if b read (narrowed_in id read ts)) ≡ cond b (renewed read (narrowed id read true (one_plan ts))) (narrowed id read true (one_plan ts))
  one_left true (more p rest) = refl
  one_left false (more p rest) = refl
  one_left false no_roses = refl
  one_left true no_roses = at read
    where
      at : (r : Option (List Name)) → rose tt invalid no_roses ≡ renewed r (rose tt invalid no_roses)
      at None = refl
      at (Some l) = refl

  node_from : (under : Bool) (op : Op) (ts : Plans) (c : CacheOf) → (under && is_cache id op) ≡ is_cache id op → ((e : CacheOf) → IsCacheOf e (caches_in (narrowed_in id read ts)) → CacheMade (below_narrowed id read) e (caches_in ts))
      → IsCacheOf c (own_cache op (renewed_if (under && is_cache id op) read (narrowed_in id read ts)) ++ caches_in (renewed_if (under && is_cache id op) read (narrowed_in id read ts))) → CacheMade (below_narrowed id read) c (own_cache op ts ++ caches_in ts)
  node_from under (cache k hits) ts c site by (inl e) = record {
    given = record { id = k; below = one_plan ts };
    there = inl refl;
    id = ap (λ (x : CacheOf). x.id) e;
    below = ap (λ (x : CacheOf). x.below) e ∙ ap (λ (b : Bool). one_plan (renewed_if b read (narrowed_in id read ts))) site ∙ one_left (k == id) ts;
  }
  node_from under (cache k hits) ts c site by (inr h) = back_made (below_narrowed id read) c (record { id = k; below = one_plan ts } ∷ []) (caches_in ts) (by c (if_caches (under && (k == id)) (narrowed_in id read ts) c h))
  node_from under op ts c site by h = by c (if_caches (under && is_cache id op) (narrowed_in id read ts) c h)

  mutual
    pub narrowed_from : (p : Plan) (c : CacheOf) → IsCacheOf c (caches (narrowed id read true p)) → CacheMade (below_narrowed id read) c (caches p)
    narrowed_from (rose n op ts) c h = node_from true op ts c refl (λ e k. narrowed_from_in ts e k) h

    pub narrowed_from_in : (ts : Plans) (c : CacheOf) → IsCacheOf c (caches_in (narrowed_in id read ts)) → CacheMade (below_narrowed id read) c (caches_in ts)
    narrowed_from_in no_roses c h = absurd h
    narrowed_from_in (more p rest) c h = either_made (below_narrowed id read) c (caches (narrowed id read true p)) (caches_in (narrowed_in id read rest)) (caches p) (caches_in rest) (λ k. narrowed_from p c k) (λ k. narrowed_from_in rest c k) h

  -- what is left below alike plans is alike
  below_alike : (k : ℕ) (p q : Plan) → unmarked p ≡ unmarked q → unmarked (below_narrowed id read k p) ≡ unmarked (below_narrowed id read k q)
  below_alike k p q e = at (k == id)
    where
      inner : unmarked (narrowed id read true p) ≡ unmarked (narrowed id read true q)
      inner = sym (narrowed_same true p) ∙ ap (narrowed id read true) e ∙ narrowed_same true q

      at : (b : Bool) → unmarked (cond b (renewed read (narrowed id read true p)) (narrowed id read true p)) ≡ unmarked (cond b (renewed read (narrowed id read true q)) (narrowed id read true q))
      at true = sym (renewed_same read (narrowed id read true p)) ∙ ap (renewed read) inner ∙ renewed_same read (narrowed id read true q)
      at false = inner

  -- the root is no site: where it is a cache of the number, no other is
  root : (n : Unit {0}) (op : Op) (ts : Plans) (b : Bool) → is_cache id op ≡ b → IsValid (rose n op ts) → AreShared (rose n op ts) → AreShared (narrowed id read false (rose n op ts))
  root n op ts false e v h c d i j same =
      made_alike (below_narrowed id read) below_alike (rose n op ts) c d h (node_from false op ts c (sym e) (λ x k. narrowed_from_in ts x k) i) (node_from false op ts d (sym e) (λ x k. narrowed_from_in ts x k) j) same
  root n (cache k hits) (more (rose m o us) no_roses) true e v h c d i j same = at i j
    where
      own : CacheOf
      own = record { id = k; below = rose m o us }

      others : (x : CacheOf) → IsCacheOf x (caches_in (narrowed_in id read (more (rose m o us) no_roses))) → CacheMade (below_narrowed id read) x (caches_in (more (rose m o us) no_roses))
      others x l = narrowed_from_in (more (rose m o us) no_roses) x l

      never : (x : CacheOf) → CacheMade (below_narrowed id read) x (caches_in (more (rose m o us) no_roses)) → k ≡ x.id → ⊥
      never x f q =
          never_below (rose m o us) f.given (v.1.0, v.1.1) (subst (λ (l : List CacheOf). IsCacheOf f.given l) (append-nil (caches (rose m o us))) f.there)
          (h own f.given (inl refl) (inr f.there) (q ∙ f.id))

      at : IsCacheOf c (caches (narrowed id read false (rose n (cache k hits) (more (rose m o us) no_roses)))) → IsCacheOf d (caches (narrowed id read false (rose n (cache k hits) (more (rose m o us) no_roses)))) → unmarked c.below ≡ unmarked d.below
      at (inl p) (inl q) = ap (λ (x : CacheOf). unmarked x.below) (p ∙ sym q)
      at (inl p) (inr q) = absurd (never d (others d q) (sym (ap (λ (x : CacheOf). x.id) p) ∙ same))
      at (inr p) (inl q) = absurd (never c (others c p) (sym (ap (λ (x : CacheOf). x.id) q) ∙ sym same))
      at (inr p) (inr q) = made_alike (below_narrowed id read) below_alike (rose n (cache k hits) (more (rose m o us) no_roses)) c d h (back_made (below_narrowed id read) c (own ∷ []) (caches_in (more (rose m o us) no_roses)) (others c p)) (back_made (below_narrowed id read) d (own ∷ []) (caches_in (more (rose m o us) no_roses)) (others d q)) same
  root n (cache k hits) no_roses true e v h c d i j same = cc
  root n (cache k hits) (more (rose m o us) (more (rose m' o' us') rest)) true e v h c d i j same = cc
  root n op ts true e v h c d i j same = cc

  pub shared_narrowed : (p : Plan) → IsValid p → AreShared p → AreShared (narrowed id read false p)
  shared_narrowed (rose n op ts) v h = root n op ts (is_cache id op) refl v h

-- the caches of a number, handled, stand over alike plans where they did, and so do those of others
pub handled_shared : (differ : Bool) (id : ℕ) (p : Plan) → IsValid p → AreShared p → AreShared (handled differ id p)
handled_shared true id p v h = shared_removed id false p h
handled_shared false id p v h = shared_narrowed id _ p v h
