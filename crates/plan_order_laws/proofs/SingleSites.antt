-- In a flat plan the sites of each number are the same when joins and unions over caches lose their marks.
use Rattle.std.proofs.Common.{◌≡◌, inl, ℕ, ◌==◌, ◌||◌, cond, Bool, false, List, [], ◌∷◌, ◌++◌, Option, refl, ap, ap₂, ◌∙◌, subst, append-nil}
use Rattle.plan_core.specs.Columns.{Columns}
use Rattle.plan_tree.specs.Rose.{Roses, rose, no_roses, more}
use Rattle.plan_expr.specs.Exprs.{Expr, Named}
use Rattle.plan_expr.specs.Leaves.{Name}
use Rattle.plan_ir.specs.Plans.{Op, filter, simple_projection, join, union, cache, Plan}
use Rattle.plan_meaning.specs.Caches.{CacheOf, IsCacheOf, caches, caches_in, own_cache}
use Rattle.plan_meaning.specs.Counting.{is_closed}
use Rattle.plan_meaning.specs.PlanAt.{one_plan}
use Rattle.plan_meaning.specs.Steps.{IsValid}
use Rattle.plan_meaning.specs.Typing.{AllValid}
use Rattle.plan_pruned.proofs.CachesPruned.{first_of as front_in, rest_of as back_in}
use Rattle.plan_order_laws.specs.CacheSites.{CacheSite, cache_sites, conditions_below, names_below, own_site}
use Rattle.plan_order_laws.specs.SideBySide.{hold_cache, single, single_in, single_op}
use Rattle.plan_order_laws.specs.CacheStates.{IsFlat}
use Rattle.plan_order_laws.proofs.FreePlans.{FlatIn, flat_below, nothing}
use Rattle.plan_order_laws.proofs.SinglePlans.{single_from, single_idle}

abbrev Plans : Type 0
Plans = Roses (Unit {0}) Op

-- What stands above

-- nodes are others, but for marks
abbrev Marked : List Op → List Op → Type 0
Marked [] [] = Unit {0}
Marked (o ∷ os) (op ∷ ops) = ((b : Bool) × (o ≡ single_op op b)) × Marked os ops
Marked _ _ = ⊥

names_second : (e : Named) (op : Op) (b : Bool) (os ops : List Op) → names_below (filter e ∷ single_op op b ∷ os) ≡ names_below (filter e ∷ op ∷ ops)
names_second e (simple_projection cs) b os ops = refl
names_second e (join left_on right_on schema told) b os ops = refl
names_second e (union options) b os ops = refl
names_second e op b os ops = refl

names_first : (op : Op) (b : Bool) (os ops : List Op) → Marked os ops → names_below (single_op op b ∷ os) ≡ names_below (op ∷ ops)
names_first (simple_projection cs) b os ops h = refl
names_first (filter e) b [] [] h = refl
names_first (filter e) b (o ∷ os) (op ∷ ops) h = ap (λ (x : Op). names_below (filter e ∷ x ∷ os)) h.0.1 ∙ names_second e op h.0.0 os ops
names_first (filter e) b [] (op ∷ ops) h = absurd h
names_first (filter e) b (o ∷ os) [] h = absurd h
names_first (join left_on right_on schema told) b os ops h = refl
names_first (union options) b os ops h = refl
names_first op b os ops h = refl

conditions_second : (cs : Columns) (op : Op) (b : Bool) (os ops : List Op) → conditions_below (simple_projection cs ∷ single_op op b ∷ os) ≡ conditions_below (simple_projection cs ∷ op ∷ ops)
conditions_second cs (filter e) b os ops = refl
conditions_second cs (join left_on right_on schema told) b os ops = refl
conditions_second cs (union options) b os ops = refl
conditions_second cs op b os ops = refl

conditions_first : (op : Op) (b : Bool) (os ops : List Op) → Marked os ops → conditions_below (single_op op b ∷ os) ≡ conditions_below (op ∷ ops)
conditions_first (filter e) b os ops h = refl
conditions_first (simple_projection cs) b [] [] h = refl
conditions_first (simple_projection cs) b (o ∷ os) (op ∷ ops) h = ap (λ (x : Op). conditions_below (simple_projection cs ∷ x ∷ os)) h.0.1 ∙ conditions_second cs op h.0.0 os ops
conditions_first (simple_projection cs) b [] (op ∷ ops) h = absurd h
conditions_first (simple_projection cs) b (o ∷ os) [] h = absurd h
conditions_first (join left_on right_on schema told) b os ops h = refl
conditions_first (union options) b os ops h = refl
conditions_first op b os ops h = refl

-- Nothing below a cache

hold_none : (ts : Plans) → ((c : CacheOf) → IsCacheOf c (caches_in ts) → ⊥) → hold_cache ts ≡ false
hold_none no_roses none = refl
hold_none (more (rose n op us) rest) none =
    ap₂ (λ (a b : Bool). a || b) (open_op op us (λ c h. none c (front_in (caches (rose n op us)) (caches_in rest) c (front_in (own_cache op us) (caches_in us) c h))))
    (ap₂ (λ (a b : Bool). a || b) (hold_none us (λ c h. none c (front_in (caches (rose n op us)) (caches_in rest) c (back_in (own_cache op us) (caches_in us) c h)))) (hold_none rest (λ c h. none c (back_in (caches (rose n op us)) (caches_in rest) c h))))
  where
    open_op : (op : Op) (us : Plans) → ((c : CacheOf) → IsCacheOf c (own_cache op us) → ⊥) → is_closed op ≡ false
    open_op (cache k hits) us none = absurd (none (record { id = k; below = one_plan us }) (inl refl))
    open_op op us none = refl

below_same : (n : Unit {0}) (k hits : ℕ) (ts : Plans) → IsValid (rose n (cache k hits) ts) → IsFlat (rose n (cache k hits) ts) → single_in ts ≡ ts
below_same n k hits ts v f = single_idle ts (hold_none ts (λ c h. nothing (caches_in ts) (flat_below n k hits ts v f) c h))

-- Sites

own_single : (id : ℕ) (os ops : List Op) (n : Unit {0}) (op : Op) (b : Bool) (ts : Plans) → Marked os ops → IsValid (rose n op ts) → IsFlat (rose n op ts) → own_site id os (single_op op b) (single_in ts) ≡ own_site id ops op ts
own_single id [] [] n op b ts h v f = refl
own_single id (o ∷ os) (q ∷ ops) n (cache k hits) b ts h v f =
    ap₂ (λ (ns : Option (List Name)) (es : List Expr). cond {A = List CacheSite} (k == id) (record { names = ns; conditions = es; input = one_plan (single_in ts) } ∷ []) [])
    (ap (λ (x : Op). names_below (x ∷ os)) h.0.1 ∙ names_first q h.0.0 os ops h.1)
    (ap (λ (x : Op). conditions_below (x ∷ os)) h.0.1 ∙ conditions_first q h.0.0 os ops h.1)
    ∙ ap (λ (us : Plans). cond {A = List CacheSite} (k == id) (record { names = names_below (q ∷ ops); conditions = conditions_below (q ∷ ops); input = one_plan us } ∷ []) []) (below_same n k hits ts v f)
own_single id (o ∷ os) (q ∷ ops) n (join left_on right_on schema told) b ts h v f = refl
own_single id (o ∷ os) (q ∷ ops) n (union options) b ts h v f = refl
own_single id (o ∷ os) (q ∷ ops) n op b ts h v f = refl
own_single id [] (q ∷ ops) n op b ts h v f = absurd h
own_single id (o ∷ os) [] n op b ts h v f = absurd h

sites_in : (id : ℕ) (os ops : List Op) (ts : Plans) → Marked os ops → AllValid ts → FlatIn ts → cache_sites id os (single_in ts) ≡ cache_sites id ops ts
sites_in id os ops no_roses h v f = refl
sites_in id os ops (more (rose n op us) rest) h v f =
    let here : IsFlat (rose n op us) = λ c i. f c (front_in (caches (rose n op us)) (caches_in rest) c i) in
    ap₂ (λ (x y : List CacheSite). x ++ y) (own_single id os ops n op (hold_cache us) us h (v.0, v.1) here)
    (ap₂ (λ (x y : List CacheSite). x ++ y)
    (sites_in id (single_op op (hold_cache us) ∷ os) (op ∷ ops) us ((hold_cache us, refl), h) v.1 (λ c i. here c (back_in (own_cache op us) (caches_in us) c i)))
    (sites_in id os ops rest h v.2 (λ c i. f c (back_in (caches (rose n op us)) (caches_in rest) c i))))

pub single_sites : (id : ℕ) (p : Plan) → IsValid p → IsFlat p → cache_sites id [] (more (single p) no_roses) ≡ cache_sites id [] (more p no_roses)
single_sites id (rose n op ts) v f = sites_in id [] [] (more (rose n op ts) no_roses) tt (v.0, v.1, tt) (λ c h. f c (subst (λ (cs : List CacheOf). IsCacheOf c cs) (append-nil (caches (rose n op ts))) h))

-- the plan stays flat
pub single_flat : (p : Plan) → IsFlat p → IsFlat (single p)
single_flat p f c h =
    let x = single_from p c h in
    ap caches x.below ∙ empty (caches (single x.given.below)) (λ d k. let y = single_from x.given.below d k in nothing (caches x.given.below) (f x.given x.there) y.given y.there)
  where
    empty : (cs : List CacheOf) → ((d : CacheOf) → IsCacheOf d cs → ⊥) → cs ≡ []
    empty [] none = refl
    empty (d ∷ cs) none = absurd (none d (inl refl))
