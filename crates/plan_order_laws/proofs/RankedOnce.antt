-- Each number of a cache of a plan stands once among those that are handled.
use Rattle.std.proofs.Common.{◌≡◌, ◌⊎◌, inl, inr, ℕ, suc, ◌==◌, ◌||◌, cond, Bool, true, false, List, [], ◌∷◌, ◌++◌, refl, sym, ap, ap₂, ◌∙◌, subst, eqb-true, eq-eqb}
use Rattle.std.specs.Ordering.{is_lt}
use Rattle.std.proofs.lemmas.Bool.{or_parts}
use Rattle.plan_tree.specs.Rose.{Roses, rose, no_roses, more}
use Rattle.plan_ir.specs.Plans.{Op, cache, Plan}
use Rattle.plan_meaning.specs.Caches.{CacheOf, IsCacheOf, caches, caches_in, own_cache}
use Rattle.plan_meaning.specs.Counting.{is_closed}
use Rattle.plan_meaning.specs.Steps.{IsValid}
use Rattle.plan_pruned.proofs.CachesPruned.{first_of as front_in}
use Rattle.plan_order_laws.specs.CacheSites.{CacheSite, cache_sites}
use Rattle.plan_order_laws.specs.SideBySide.{hold_cache}
use Rattle.plan_order_laws.specs.CacheStates.{IsFlat, Missing, Once, cache_states, each_once, in_rank, own_rank, rank_cmp, ranked, ranked_in, ranks, sites_left, without}
use Rattle.plan_meaning.proofs.CacheLists.{split_cache}
use Rattle.plan_order_laws.proofs.States.{states_idle, states_sites}

abbrev Plans : Type 0
Plans = Roses (Unit {0}) Op

-- a number stands among caches with their depths
abbrev IsIn : ℕ → List (ℕ × ℕ) → Type 0
IsIn id [] = ⊥
IsIn id (x ∷ xs) = (id ≡ x.1) ⊎ IsIn id xs

-- Among the caches of a plan

front : (id : ℕ) (xs ys : List (ℕ × ℕ)) → IsIn id xs → IsIn id (xs ++ ys)
front id [] ys h = absurd h
front id (x ∷ xs) ys (inl e) = inl e
front id (x ∷ xs) ys (inr h) = inr (front id xs ys h)

back : (id : ℕ) (xs ys : List (ℕ × ℕ)) → IsIn id ys → IsIn id (xs ++ ys)
back id [] ys h = h
back id (x ∷ xs) ys h = inr (back id xs ys h)

own_in : (depth : ℕ) (op : Op) (ts : Plans) (c : CacheOf) → IsCacheOf c (own_cache op ts) → IsIn c.id (own_rank depth op)
own_in depth (cache k hits) ts c (inl e) = inl (ap (λ (x : CacheOf). x.id) e)
own_in depth (cache k hits) ts c (inr h) = absurd h
own_in depth op ts c h = absurd h

ranks_in : (depth : ℕ) (ts : Plans) (c : CacheOf) → IsCacheOf c (caches_in ts) → IsIn c.id (ranks depth ts)
ranks_in depth no_roses c h = absurd h
ranks_in depth (more (rose n op us) rest) c h = at (split_cache c (caches (rose n op us)) (caches_in rest) h) (λ k. ranks_in (suc depth) us c k) (λ k. ranks_in depth rest c k)
  where
    own : List (ℕ × ℕ)
    own = own_rank depth op

    low : IsCacheOf c (own_cache op us) ⊎ IsCacheOf c (caches_in us) → (IsCacheOf c (caches_in us) → IsIn c.id (ranks (suc depth) us)) → IsIn c.id (own_rank depth op ++ (ranks (suc depth) us ++ ranks depth rest))
    low (inl k) f = front c.id (own_rank depth op) (ranks (suc depth) us ++ ranks depth rest) (own_in depth op us c k)
    low (inr k) f = back c.id (own_rank depth op) (ranks (suc depth) us ++ ranks depth rest) (front c.id (ranks (suc depth) us) (ranks depth rest) (f k))

    at : IsCacheOf c (caches (rose n op us)) ⊎ IsCacheOf c (caches_in rest) → (IsCacheOf c (caches_in us) → IsIn c.id (ranks (suc depth) us)) → (IsCacheOf c (caches_in rest) → IsIn c.id (ranks depth rest)) → IsIn c.id (own_rank depth op ++ (ranks (suc depth) us ++ ranks depth rest))
    at (inl k) f g = low (split_cache c (own_cache op us) (caches_in us) k) f
    at (inr k) f g = back c.id (own_rank depth op) (ranks (suc depth) us ++ ranks depth rest) (back c.id (ranks (suc depth) us) (ranks depth rest) (g k))

-- In their order

one_ranked : (id : ℕ) (x : ℕ × ℕ) (ys : List (ℕ × ℕ)) → IsIn id (x ∷ ys) → IsIn id (ranked_in x ys)
one_ranked id x [] h = h
one_ranked id x (y ∷ ys) h = at (is_lt (rank_cmp y x)) (λ k. one_ranked id x ys k) h
  where
    at : (b : Bool) → (IsIn id (x ∷ ys) → IsIn id (ranked_in x ys)) → IsIn id (x ∷ y ∷ ys) → IsIn id (cond b (y ∷ ranked_in x ys) (x ∷ y ∷ ys))
    at false by h = h
    at true by (inl e) = inr (by (inl e))
    at true by (inr (inl e)) = inl e
    at true by (inr (inr h)) = inr (by (inr h))

all_ranked : (id : ℕ) (xs : List (ℕ × ℕ)) → IsIn id xs → IsIn id (in_rank xs)
all_ranked id [] h = h
all_ranked id (x ∷ xs) h = one_ranked id x (in_rank xs) (at (λ k. all_ranked id xs k) h)
  where
    at : (IsIn id xs → IsIn id (in_rank xs)) → IsIn id (x ∷ xs) → IsIn id (x ∷ in_rank xs)
    at by (inl e) = inl e
    at by (inr k) = inr (by k)

-- Once

without_missing : (id : ℕ) (ids : List ℕ) → Missing id (without id ids)
without_missing id [] = tt
without_missing id (j ∷ ids) = at (j == id) refl (without_missing id ids)
  where
    at : (b : Bool) → (j == id) ≡ b → Missing id (without id ids) → Missing id (cond b (without id ids) (j ∷ without id ids))
    at true e rest = rest
    at false e rest = ((λ same. no (sym (eq-eqb j id same) ∙ e)), rest)
      where
        no : true ≡ false → ⊥
        no q = cc

fewer_missing : (id k : ℕ) (ids : List ℕ) → Missing id ids → Missing id (without k ids)
fewer_missing id k [] h = tt
fewer_missing id k (j ∷ ids) h = at (j == k) (fewer_missing id k ids h.1)
  where
    at : (b : Bool) → Missing id (without k ids) → Missing id (cond b (without k ids) (j ∷ without k ids))
    at true rest = rest
    at false rest = (h.0, rest)

without_join : (k : ℕ) (xs ys : List ℕ) → without k (xs ++ ys) ≡ without k xs ++ without k ys
without_join k [] ys = refl
without_join k (x ∷ xs) ys = at (x == k) (without_join k xs ys)
  where
    at : (b : Bool) → without k (xs ++ ys) ≡ without k xs ++ without k ys → cond b (without k (xs ++ ys)) (x ∷ without k (xs ++ ys)) ≡ cond b (without k xs) (x ∷ without k xs) ++ without k ys
    at true e = e
    at false e = ap (λ (l : List ℕ). x ∷ l) e

once_without : (id k : ℕ) (ids : List ℕ) → (k ≡ id → ⊥) → Once id ids → Once id (k ∷ without k ids)
once_without id k ids apart o = record {
  before = k ∷ without k o.before;
  after = without k o.after;
  is = ap (λ (l : List ℕ). k ∷ l) (ap (without k) o.is ∙ without_join k o.before (id ∷ o.after) ∙ ap (λ (l : List ℕ). without k o.before ++ l) (ap (λ (b : Bool). cond b (without k o.after) (id ∷ without k o.after)) (differ (id == k) refl)));
  none_before = (apart, fewer_missing id k o.before o.none_before);
  none_after = fewer_missing id k o.after o.none_after;
}
  where
    differ : (b : Bool) → (id == k) ≡ b → (id == k) ≡ false
    differ false e = e
    differ true e = absurd (apart (sym (eqb-true id k e)))

once : (id : ℕ) (xs : List (ℕ × ℕ)) → IsIn id xs → Once id (each_once xs)
once id [] h = absurd h
once id (x ∷ xs) h = at (x.1 == id) refl (λ k. once id xs k) h
  where
    at : (b : Bool) → (x.1 == id) ≡ b → (IsIn id xs → Once id (each_once xs)) → IsIn id (x ∷ xs) → Once id (x.1 ∷ without x.1 (each_once xs))
    at true e by h = let same : x.1 ≡ id = eqb-true x.1 id e in record { before = []; after = without x.1 (each_once xs); is = ap (λ (k : ℕ). k ∷ without x.1 (each_once xs)) same; none_before = tt; none_after = subst (λ (k : ℕ). Missing id (without k (each_once xs))) (sym same) (without_missing id (each_once xs)) }
    at false e by (inl same) = absurd (no (sym (eq-eqb x.1 id (sym same)) ∙ e))
      where
        no : true ≡ false → ⊥
        no q = cc
    at false e by (inr k) = once_without id x.1 (each_once xs) (λ same. no (sym (eq-eqb x.1 id same) ∙ e)) (by k)
      where
        no : true ≡ false → ⊥
        no q = cc

-- each number of a cache stands once among those that are handled
pub ranked_once : (p : Plan) (c : CacheOf) → IsCacheOf c (caches p) → Once c.id (ranked p)
ranked_once p c h = once c.id (in_rank (ranks 0 (more p no_roses))) (all_ranked c.id (ranks 0 (more p no_roses)) (ranks_in 0 (more p no_roses) c (front_in (caches p) [] c h)))

-- of a flat plan each is handled as the plan has it
pub ranked_sites : (differ : List CacheSite → Bool) (p : Plan) (c : CacheOf) → IsValid p → IsFlat p → IsCacheOf c (caches p) → cache_sites c.id [] (more (cache_states differ (ranked p) p) no_roses) ≡ sites_left differ (cache_sites c.id [] (more p no_roses))
ranked_sites differ p c v f h =
    let o = ranked_once p c h in
    ap (λ (ids : List ℕ). cache_sites c.id [] (more (cache_states differ ids p) no_roses)) o.is
    ∙ states_sites differ o.before o.after c.id o.none_before o.none_after p v f

-- Plans without a cache

own_none : (depth : ℕ) (op : Op) → is_closed op ≡ false → own_rank depth op ≡ []
own_none depth (cache k hits) e = cc
own_none depth op e = refl

ranks_none : (depth : ℕ) (ts : Plans) → hold_cache ts ≡ false → ranks depth ts ≡ []
ranks_none depth no_roses e = refl
ranks_none depth (more (rose n op us) rest) e =
    let q = or_parts (is_closed op) (hold_cache us || hold_cache rest) e in
    let r = or_parts (hold_cache us) (hold_cache rest) q.1 in
    ap₂ (λ (x y : List (ℕ × ℕ)). x ++ y) (own_none depth op q.0) (ap₂ (λ (x y : List (ℕ × ℕ)). x ++ y) (ranks_none (suc depth) us r.0) (ranks_none depth rest r.1))

-- they have no number, and stay as they are
pub ranked_idle : (differ : List CacheSite → Bool) (p : Plan) → hold_cache (more p no_roses) ≡ false → cache_states differ (ranked p) p ≡ p
ranked_idle differ p e =
    ap (λ (xs : List (ℕ × ℕ)). cache_states differ (each_once (in_rank xs)) p) (ranks_none 0 (more p no_roses) e)
    ∙ states_idle differ p e
