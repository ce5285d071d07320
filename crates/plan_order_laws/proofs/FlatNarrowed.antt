-- In a flat plan whose sites of a number are narrowed each site of it has its input narrowed, and the sites of other numbers are as they were.
use Rattle.std.proofs.Common.{◌≡◌, ℕ, ◌==◌, ◌&&◌, cond, Bool, true, false, not, List, [], ◌∷◌, ◌++◌, map, Option, None, Some, refl, sym, ap, ap₂, ◌∙◌, subst}
use Rattle.std.proofs.lemmas.List.{map-append}
use Rattle.plan_tree.specs.Rose.{Roses, rose, no_roses, more}
use Rattle.plan_expr.specs.Leaves.{Name}
use Rattle.plan_ir.specs.Plans.{Op, cache, invalid, Plan}
use Rattle.plan_meaning.specs.Caches.{IsCacheOf, caches, caches_in, own_cache}
use Rattle.plan_meaning.specs.Checks.{is_empty}
use Rattle.plan_meaning.specs.PlanAt.{one_plan}
use Rattle.plan_meaning.specs.Steps.{IsValid}
use Rattle.plan_meaning.specs.Typing.{AllValid}
use Rattle.plan_pruned.proofs.CachesPruned.{first_of as front_in, rest_of as back_in}
use Rattle.plan_order_laws.specs.CacheSites.{CacheSite, cache_sites, conditions_below, names_below, own_site, renewed, renewed_site}
use Rattle.plan_order_laws.specs.Handled.{is_cache, narrowed, narrowed_in, renewed_if}
use Rattle.plan_order_laws.specs.CacheStates.{IsFlat, Free}
use Rattle.plan_order_laws.proofs.FreePlans.{FlatIn, all_free, closed_flat, narrowed_free, no_renewing, none_sites, nothing, other_number, own_other, own_same}
use Rattle.plan_order_laws.proofs.SharedNarrowed.{if_caches}

abbrev Plans : Type 0
Plans = Roses (Unit {0}) Op

module _ (id : ℕ) (read : Option (List Name)) where
  -- the inputs of a node below others, as they are left
  abbrev left_in : List Op → Op → Plans → Plans
  left_in above op ts = renewed_if (not (is_empty above) && is_cache id op) read (narrowed_in id read ts)

  -- below a cache of a flat plan nothing is left to find
  closed_left : (above : List Op) (op : Op) (ts : Plans) → caches_in ts ≡ [] → (k : ℕ) → Free k (caches_in (left_in above op ts))
  closed_left above op ts e k c h same =
      let same_plans = narrowed_free id read ts (all_free id (caches_in ts) e) in
      nothing (caches_in ts) e c
      (subst (λ (us : Plans). IsCacheOf c (caches_in us)) same_plans (if_caches id read (not (is_empty above) && is_cache id op) (narrowed_in id read ts) c h))

  open_left : (above : List Op) (op : Op) (ts : Plans) → is_cache id op ≡ false → left_in above op ts ≡ narrowed_in id read ts
  open_left above op ts e = ap (λ (b : Bool). renewed_if b read (narrowed_in id read ts)) (no_renewing id (not (is_empty above)) op e)

  -- The sites of the number

  one_renewed : (ts : Plans) → one_plan (renewed_if true read ts) ≡ renewed read (one_plan ts)
  one_renewed (more p rest) = refl
  one_renewed no_roses = at read
    where
      at : (r : Option (List Name)) → rose tt invalid no_roses ≡ renewed r (rose tt invalid no_roses)
      at None = refl
      at (Some l) = refl

  own_renewed : (above : List Op) (op : Op) (ts : Plans) → own_site id above op (renewed_if (not (is_empty above) && is_cache id op) read ts) ≡ map (renewed_site read) (own_site id above op ts)
  own_renewed [] op ts = refl
  own_renewed (o ∷ above) (cache k hits) ts = at (k == id)
    where
      site : Plan → CacheSite
      site p = record { names = names_below (o ∷ above); conditions = conditions_below (o ∷ above); input = p }

      at : (b : Bool) → cond {A = List CacheSite} b (record { names = names_below (o ∷ above); conditions = conditions_below (o ∷ above); input = one_plan (renewed_if b read ts) } ∷ []) [] ≡ map (renewed_site read) (cond {A = List CacheSite} b (record { names = names_below (o ∷ above); conditions = conditions_below (o ∷ above); input = one_plan ts } ∷ []) [])
      at true = ap (λ (p : Plan). site p ∷ []) (one_renewed ts)
      at false = refl
  own_renewed (o ∷ above) op ts = refl

  abbrev Renewed : List Op → Op → Plans → Type 0
  Renewed above op ts =
      (own_site id above op (left_in above op ts) ≡ map (renewed_site read) (own_site id above op ts))
      × (cache_sites id (op ∷ above) (left_in above op ts) ≡ map (renewed_site read) (cache_sites id (op ∷ above) ts))

  node_renewed : (above : List Op) (n : Unit {0}) (op : Op) (ts : Plans) → IsValid (rose n op ts) → IsFlat (rose n op ts)
      → cache_sites id (op ∷ above) (narrowed_in id read ts) ≡ map (renewed_site read) (cache_sites id (op ∷ above) ts) → Renewed above op ts
  node_renewed above n op ts v f by = at (is_cache id op) refl
    where
      at : (b : Bool) → is_cache id op ≡ b → Renewed above op ts
      at false e = (
        own_other id above op (left_in above op ts) e ∙ sym (ap (map (renewed_site read)) (own_other id above op ts e)),
        ap (cache_sites id (op ∷ above)) (open_left above op ts e) ∙ by,
      )
      at true e =
          let none = closed_flat id n op ts e v f in (
            ap (λ (us : Plans). own_site id above op (renewed_if (not (is_empty above) && is_cache id op) read us)) (narrowed_free id read ts (all_free id (caches_in ts) none)) ∙ own_renewed above op ts,
            none_sites id (op ∷ above) (left_in above op ts) (closed_left above op ts none id) ∙ sym (ap (map (renewed_site read)) (none_sites id (op ∷ above) ts (all_free id (caches_in ts) none))),
          )

  renewed_join : (xs ys zs us vs ws : List CacheSite) → xs ≡ map (renewed_site read) us → ys ≡ map (renewed_site read) vs → zs ≡ map (renewed_site read) ws → xs ++ (ys ++ zs) ≡ map (renewed_site read) (us ++ (vs ++ ws))
  renewed_join xs ys zs us vs ws d e f =
      ap₂ (λ (x y : List CacheSite). x ++ y) d (ap₂ (λ (x y : List CacheSite). x ++ y) e f ∙ sym (map-append (renewed_site read) vs ws))
      ∙ sym (map-append (renewed_site read) us (vs ++ ws))

  narrowed_sites_in : (o : Op) (above : List Op) (ts : Plans) → AllValid ts → FlatIn ts → cache_sites id (o ∷ above) (narrowed_in id read ts) ≡ map (renewed_site read) (cache_sites id (o ∷ above) ts)
  narrowed_sites_in o above no_roses v f = refl
  narrowed_sites_in o above (more (rose n op us) rest) v f =
      let here : IsFlat (rose n op us) = λ c h. f c (front_in (caches (rose n op us)) (caches_in rest) c h) in
      let x = node_renewed (o ∷ above) n op us (v.0, v.1) here (narrowed_sites_in op (o ∷ above) us v.1 (λ c h. here c (back_in (own_cache op us) (caches_in us) c h))) in
      let y = narrowed_sites_in o above rest v.2 (λ c h. f c (back_in (caches (rose n op us)) (caches_in rest) c h)) in
      renewed_join (own_site id (o ∷ above) op (left_in (o ∷ above) op us)) (cache_sites id (op ∷ o ∷ above) (left_in (o ∷ above) op us)) (cache_sites id (o ∷ above) (narrowed_in id read rest))
      (own_site id (o ∷ above) op us) (cache_sites id (op ∷ o ∷ above) us) (cache_sites id (o ∷ above) rest) x.0 x.1 y

  -- each site of the number has its input narrowed
  pub narrowed_sites : (p : Plan) → IsValid p → IsFlat p → cache_sites id [] (more (narrowed id read false p) no_roses) ≡ map (renewed_site read) (cache_sites id [] (more p no_roses))
  narrowed_sites (rose n op ts) v f =
      let x = node_renewed [] n op ts v f (narrowed_sites_in op [] ts v.1 (λ c h. f c (back_in (own_cache op ts) (caches_in ts) c h))) in
      renewed_join (own_site id [] op (left_in [] op ts)) (cache_sites id (op ∷ []) (left_in [] op ts)) [] (own_site id [] op ts) (cache_sites id (op ∷ []) ts) [] x.0 x.1 refl

  -- The sites of other numbers

  module _ (k : ℕ) (differ : id ≡ k → ⊥) where
    abbrev Stays : List Op → Op → Plans → Type 0
    Stays above op ts = (own_site k above op (left_in above op ts) ≡ own_site k above op ts) × (cache_sites k (op ∷ above) (left_in above op ts) ≡ cache_sites k (op ∷ above) ts)

    node_stays : (above : List Op) (n : Unit {0}) (op : Op) (ts : Plans) → IsValid (rose n op ts) → IsFlat (rose n op ts) → cache_sites k (op ∷ above) (narrowed_in id read ts) ≡ cache_sites k (op ∷ above) ts → Stays above op ts
    node_stays above n op ts v f by = at (is_cache id op) refl
      where
        at : (b : Bool) → is_cache id op ≡ b → Stays above op ts
        at false e = (
          ap (own_site k above op) (open_left above op ts e)
              ∙ own_same k above op (narrowed_in id read ts) ts (λ q. ap one_plan (narrowed_free id read ts (all_free id (caches_in ts) (closed_flat k n op ts q v f)))),
          ap (cache_sites k (op ∷ above)) (open_left above op ts e) ∙ by,
        )
        at true e =
            let none = closed_flat id n op ts e v f in
            let other = other_number id k differ op e in (
              own_other k above op (left_in above op ts) other ∙ sym (own_other k above op ts other),
              none_sites k (op ∷ above) (left_in above op ts) (closed_left above op ts none k) ∙ sym (none_sites k (op ∷ above) ts (all_free k (caches_in ts) none)),
            )

    other_sites_in : (o : Op) (above : List Op) (ts : Plans) → AllValid ts → FlatIn ts → cache_sites k (o ∷ above) (narrowed_in id read ts) ≡ cache_sites k (o ∷ above) ts
    other_sites_in o above no_roses v f = refl
    other_sites_in o above (more (rose n op us) rest) v f =
        let here : IsFlat (rose n op us) = λ c h. f c (front_in (caches (rose n op us)) (caches_in rest) c h) in
        let x = node_stays (o ∷ above) n op us (v.0, v.1) here (other_sites_in op (o ∷ above) us v.1 (λ c h. here c (back_in (own_cache op us) (caches_in us) c h))) in
        let y = other_sites_in o above rest v.2 (λ c h. f c (back_in (caches (rose n op us)) (caches_in rest) c h)) in
        ap₂ (λ (x y : List CacheSite). x ++ y) x.0 (ap₂ (λ (x y : List CacheSite). x ++ y) x.1 y)

    -- they are as they were
    pub others_narrowed : (p : Plan) → IsValid p → IsFlat p → cache_sites k [] (more (narrowed id read false p) no_roses) ≡ cache_sites k [] (more p no_roses)
    others_narrowed (rose n op ts) v f =
        let x = node_stays [] n op ts v f (other_sites_in op [] ts v.1 (λ c h. f c (back_in (own_cache op ts) (caches_in ts) c h))) in
        ap₂ (λ (x y : List CacheSite). x ++ y) x.0 (ap (λ (x : List CacheSite). x ++ []) x.1)
