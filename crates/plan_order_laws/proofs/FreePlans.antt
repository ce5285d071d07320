-- Plans without a cache of a number: they have no site of it, and nothing is done to them when it is handled.
use Rattle.std.proofs.Common.{◌≡◌, inl, ℕ, ◌==◌, ◌&&◌, ◌||◌, cond, Bool, true, false, not, List, [], ◌∷◌, ◌++◌, Option, refl, sym, ap, ap₂, ◌∙◌, subst, append-nil, eqb-true}
use Rattle.plan_tree.specs.Rose.{Roses, rose, no_roses, more}
use Rattle.plan_expr.specs.Leaves.{Name}
use Rattle.plan_ir.specs.Plans.{Op, cache, Plan}
use Rattle.plan_meaning.specs.Caches.{CacheOf, IsCacheOf, caches, caches_in, own_cache}
use Rattle.plan_meaning.specs.PlanAt.{one_plan}
use Rattle.plan_meaning.specs.Steps.{IsValid}
use Rattle.plan_pruned.proofs.CachesPruned.{first_of as front_in, rest_of as back_in}
use Rattle.plan_order_laws.specs.CacheSites.{CacheSite, cache_sites, conditions_below, names_below, own_site}
use Rattle.plan_order_laws.specs.Handled.{dropped_if, is_cache, is_near, is_passing, is_place, narrowed_in, pruned_if, removed_in, renewed_if, starts}
use Rattle.plan_order_laws.specs.CacheStates.{Free, IsFlat}

abbrev Plans : Type 0
Plans = Roses (Unit {0}) Op

-- no cache stands below a cache of these plans
abbrev pub FlatIn : Plans → Type 0
FlatIn ts = (c : CacheOf) → IsCacheOf c (caches_in ts) → caches c.below ≡ []

pub nothing : (cs : List CacheOf) → cs ≡ [] → (c : CacheOf) → IsCacheOf c cs → ⊥
nothing cs e c h = subst (IsCacheOf c) e h

pub all_free : (id : ℕ) (cs : List CacheOf) → cs ≡ [] → Free id cs
all_free id cs e c h same = nothing cs e c h

own_part : (id : ℕ) (n : Unit {0}) (op : Op) (us rest : Plans) → Free id (caches_in (more (rose n op us) rest)) → Free id (own_cache op us)
own_part id n op us rest f c h = f c (front_in (caches (rose n op us)) (caches_in rest) c (front_in (own_cache op us) (caches_in us) c h))

pub low_part : (id : ℕ) (n : Unit {0}) (op : Op) (us rest : Plans) → Free id (caches_in (more (rose n op us) rest)) → Free id (caches_in us)
low_part id n op us rest f c h = f c (front_in (caches (rose n op us)) (caches_in rest) c (back_in (own_cache op us) (caches_in us) c h))

rest_part : (id : ℕ) (n : Unit {0}) (op : Op) (us rest : Plans) → Free id (caches_in (more (rose n op us) rest)) → Free id (caches_in rest)
rest_part id n op us rest f c h = f c (back_in (caches (rose n op us)) (caches_in rest) c h)

-- below a cache of a flat plan there is none
pub flat_below : (n : Unit {0}) (k hits : ℕ) (us : Plans) → IsValid (rose n (cache k hits) us) → IsFlat (rose n (cache k hits) us) → caches_in us ≡ []
flat_below n k hits (more (rose m o us) no_roses) v f = append-nil (caches (rose m o us)) ∙ f (record { id = k; below = rose m o us }) (inl refl)
flat_below n k hits no_roses v f = refl
flat_below n k hits (more (rose m o us) (more (rose m' o' us') rest)) v f = cc

pub closed_flat : (id : ℕ) (n : Unit {0}) (op : Op) (us : Plans) → is_cache id op ≡ true → IsValid (rose n op us) → IsFlat (rose n op us) → caches_in us ≡ []
closed_flat id n (cache k hits) us e v f = flat_below n k hits us v f
closed_flat id n op us e v f = cc

-- No sites

own_free : (id : ℕ) (above : List Op) (op : Op) (ts : Plans) → Free id (own_cache op ts) → own_site id above op ts ≡ []
own_free id [] op ts f = refl
own_free id (o ∷ above) (cache k hits) ts f = at (k == id) refl
  where
    at : (b : Bool) → (k == id) ≡ b → cond {A = List CacheSite} b (record { names = names_below (o ∷ above); conditions = conditions_below (o ∷ above); input = one_plan ts } ∷ []) [] ≡ []
    at false e = refl
    at true e = absurd (f (record { id = k; below = one_plan ts }) (inl refl) (eqb-true k id e))
own_free id (o ∷ above) op ts f = refl

pub none_sites : (id : ℕ) (above : List Op) (ts : Plans) → Free id (caches_in ts) → cache_sites id above ts ≡ []
none_sites id above no_roses f = refl
none_sites id above (more (rose n op us) rest) f =
    ap₂ (λ (x y : List CacheSite). x ++ y) (own_free id above op us (own_part id n op us rest f))
    (ap₂ (λ (x y : List CacheSite). x ++ y) (none_sites id (op ∷ above) us (low_part id n op us rest f)) (none_sites id above rest (rest_part id n op us rest f)))

pub own_other : (id : ℕ) (above : List Op) (op : Op) (ts : Plans) → is_cache id op ≡ false → own_site id above op ts ≡ []
own_other id [] op ts e = refl
own_other id (o ∷ above) (cache k hits) ts e = ap (λ (b : Bool). cond {A = List CacheSite} b (record { names = names_below (o ∷ above); conditions = conditions_below (o ∷ above); input = one_plan ts } ∷ []) []) e
own_other id (o ∷ above) op ts e = refl

-- a site hangs on its input alone
pub own_same : (id : ℕ) (above : List Op) (op : Op) (ts us : Plans) → (is_cache id op ≡ true → one_plan ts ≡ one_plan us) → own_site id above op ts ≡ own_site id above op us
own_same id [] op ts us h = refl
own_same id (o ∷ above) (cache k hits) ts us h = at (k == id) refl
  where
    at : (b : Bool) → (k == id) ≡ b → cond {A = List CacheSite} b (record { names = names_below (o ∷ above); conditions = conditions_below (o ∷ above); input = one_plan ts } ∷ []) [] ≡ cond {A = List CacheSite} b (record { names = names_below (o ∷ above); conditions = conditions_below (o ∷ above); input = one_plan us } ∷ []) []
    at false e = refl
    at true e = ap (λ (p : Plan). record { names = names_below (o ∷ above); conditions = conditions_below (o ∷ above); input = p } ∷ []) (h e)
own_same id (o ∷ above) op ts us h = refl

-- a node is a cache of one number alone
pub other_number : (id k : ℕ) → (id ≡ k → ⊥) → (op : Op) → is_cache id op ≡ true → is_cache k op ≡ false
other_number id k differ (cache j hits) e = at (j == k) refl
  where
    at : (b : Bool) → (j == k) ≡ b → b ≡ false
    at false q = refl
    at true q = absurd (differ (sym (eqb-true j id e) ∙ eqb-true j k q))
other_number id k differ op e = cc

-- Nothing is done

no_cache : (id : ℕ) (op : Op) (ts : Plans) → Free id (own_cache op ts) → is_cache id op ≡ false
no_cache id (cache k hits) ts f = at (k == id) refl
  where
    at : (b : Bool) → (k == id) ≡ b → b ≡ false
    at false e = refl
    at true e = absurd (f (record { id = k; below = one_plan ts }) (inl refl) (eqb-true k id e))
no_cache id op ts f = refl

and_no : (u : Bool) → (u && false) ≡ false
and_no true = refl
and_no false = refl

pub no_renewing : (id : ℕ) (under : Bool) (op : Op) → is_cache id op ≡ false → (under && is_cache id op) ≡ false
no_renewing id under op e = ap (λ (b : Bool). under && b) e ∙ and_no under

pub narrowed_free : (id : ℕ) (read : Option (List Name)) (ts : Plans) → Free id (caches_in ts) → narrowed_in id read ts ≡ ts
narrowed_free id read no_roses f = refl
narrowed_free id read (more (rose n op us) rest) f =
    ap₂ (λ (vs ws : Plans). more (rose tt op vs) ws)
    (ap (λ (b : Bool). renewed_if b read (narrowed_in id read us)) (no_cache id op us (own_part id n op us rest f)) ∙ narrowed_free id read us (low_part id n op us rest f))
    (narrowed_free id read rest (rest_part id n op us rest f))

no_place : (id : ℕ) (ts : Plans) → Free id (caches_in ts) → is_place id ts ≡ false
no_place id no_roses f = refl
no_place id (more (rose n op us) no_roses) f = no_cache id op us (own_part id n op us no_roses f)
no_place id (more (rose n op us) (more q rest)) f = refl

no_near : (id : ℕ) (ts : Plans) → Free id (caches_in ts) → is_near id ts ≡ false
no_near id no_roses f = refl
no_near id (more (rose n op us) no_roses) f = ap (λ (b : Bool). is_passing op && b) (no_place id us (low_part id n op us no_roses f)) ∙ and_no (is_passing op)
no_near id (more (rose n op us) (more q rest)) f = refl

no_start : (id : ℕ) (within : Bool) (op : Op) (ts : Plans) → Free id (caches_in ts) → starts id within op ts ≡ false
no_start id within op ts f =
    ap (λ (b : Bool). not within && (is_passing op && b)) (ap₂ (λ (a b : Bool). a || b) (no_place id ts f) (no_near id ts f))
    ∙ ap (λ (b : Bool). not within && b) (and_no (is_passing op)) ∙ and_no (not within)

pub removed_free : (id : ℕ) (within : Bool) (ts : Plans) → Free id (caches_in ts) → removed_in id within ts ≡ ts
removed_free id within no_roses f = refl
removed_free id within (more (rose n op us) rest) f =
    let low = low_part id n op us rest f in
    let inner = starts id within op us in
    ap₂ (λ (p : Plan) (ps : Plans). more p ps)
    (ap₂ (λ (b t : Bool). pruned_if b (dropped_if t op (removed_in id inner us))) (no_start id within op us low) (no_cache id op us (own_part id n op us rest f))
    ∙ ap (λ (vs : Plans). rose tt op vs) (removed_free id inner us low))
    (removed_free id within rest (rest_part id n op us rest f))
