-- The caches of numbers, handled one number after another: what holds of one step holds of all, and in a flat plan each number is handled as it was met.
use Rattle.std.proofs.Common.{◌≡◌, ℕ, cond, Bool, true, false, List, [], ◌∷◌, ◌++◌, map, refl, ap, ◌∙◌}
use Rattle.plan_tree.specs.Rose.{no_roses, more}
use Rattle.plan_ir.specs.Plans.{Plan}
use Rattle.plan_meaning.specs.Caches.{AreShared}
use Rattle.plan_meaning.specs.Relating.{Refines}
use Rattle.plan_meaning.specs.Scans.{Keeps}
use Rattle.plan_meaning.specs.Steps.{IsValid}
use Rattle.plan_meaning.proofs.Keeping.{keeps_refl, keeps_trans}
use Rattle.plan_meaning.proofs.Refining.{refines_refl, refines_trans}
use Rattle.plan_order_laws.specs.CacheSites.{CacheSite, cache_sites, names_read, renewed_site}
use Rattle.plan_order_laws.specs.Handled.{handled}
use Rattle.plan_order_laws.specs.CacheStates.{Missing, IsFlat, handled_all, handled_by, sites_left}
use Rattle.plan_order_laws.proofs.FlatNarrowed.{narrowed_sites, others_narrowed}
use Rattle.plan_order_laws.proofs.FlatRemoved.{others_removed, removed_sites}
use Rattle.plan_order_laws.proofs.HandledRefines.{handled_refines}
use Rattle.plan_order_laws.proofs.HandledFlat.{handled_flat}
use Rattle.plan_order_laws.proofs.KeptScans.{handled_keeps}
use Rattle.plan_order_laws.proofs.SharedNarrowed.{handled_shared}

-- the sites of a number in a plan
abbrev pub sites_in : ℕ → Plan → List CacheSite
sites_in id p = cache_sites id [] (more p no_roses)

-- One number

own_sites : (differ : Bool) (id : ℕ) (p : Plan) → IsValid p → IsFlat p → sites_in id (handled differ id p) ≡ cond {A = List CacheSite} differ [] (map (renewed_site (names_read (sites_in id p))) (sites_in id p))
own_sites true id p v f = removed_sites id p v
own_sites false id p v f = narrowed_sites id (names_read (sites_in id p)) p v f

other_sites : (differ : Bool) (id k : ℕ) → (id ≡ k → ⊥) → (p : Plan) → IsValid p → IsFlat p → sites_in k (handled differ id p) ≡ sites_in k p
other_sites true id k apart p v f = others_removed id k apart p v f
other_sites false id k apart p v f = others_narrowed id (names_read (sites_in id p)) k apart p v f

-- All numbers

module _ (differ : List CacheSite → Bool) where
  pub all_refines : (ids : List ℕ) (p : Plan) → IsValid p → Refines (handled_all differ ids p) p
  all_refines [] p v = refines_refl p v
  all_refines (id ∷ ids) p v =
      let q = handled_by differ id p in
      let h = handled_refines (differ (sites_in id p)) id p v in
      refines_trans (handled_all differ ids q) q p (all_refines ids q h.valid) h

  pub all_keeps : (ids : List ℕ) (p : Plan) → IsValid p → Keeps (handled_all differ ids p) p
  all_keeps [] p v = keeps_refl p
  all_keeps (id ∷ ids) p v =
      let q = handled_by differ id p in
      keeps_trans (handled_all differ ids q) q p (all_keeps ids q (handled_refines (differ (sites_in id p)) id p v).valid) (handled_keeps (differ (sites_in id p)) id p v)

  pub all_shared : (ids : List ℕ) (p : Plan) → IsValid p → AreShared p → AreShared (handled_all differ ids p)
  all_shared [] p v h = h
  all_shared (id ∷ ids) p v h = all_shared ids (handled_by differ id p) (handled_refines (differ (sites_in id p)) id p v).valid (handled_shared (differ (sites_in id p)) id p v h)

  pub all_flat : (ids : List ℕ) (p : Plan) → IsFlat p → IsFlat (handled_all differ ids p)
  all_flat [] p f = f
  all_flat (id ∷ ids) p f = all_flat ids (handled_by differ id p) (handled_flat (differ (sites_in id p)) id p f)

  -- the sites of a number that isn't handled stay as they are
  pub missing_sites : (k : ℕ) (ids : List ℕ) → Missing k ids → (p : Plan) → IsValid p → IsFlat p → sites_in k (handled_all differ ids p) ≡ sites_in k p
  missing_sites k [] apart p v f = refl
  missing_sites k (id ∷ ids) apart p v f =
      let d = differ (sites_in id p) in
      missing_sites k ids apart.1 (handled_by differ id p) (handled_refines d id p v).valid (handled_flat d id p f) ∙ other_sites d id k apart.0 p v f

  -- those of a number that is handled once are left as they were met
  pub handled_sites : (before after : List ℕ) (id : ℕ) → Missing id before → Missing id after → (p : Plan) → IsValid p → IsFlat p → sites_in id (handled_all differ (before ++ id ∷ after) p) ≡ sites_left differ (sites_in id p)
  handled_sites [] after id first last p v f =
      let d = differ (sites_in id p) in
      missing_sites id after last (handled_by differ id p) (handled_refines d id p v).valid (handled_flat d id p f) ∙ own_sites d id p v f
  handled_sites (j ∷ before) after id first last p v f =
      let d = differ (sites_in j p) in
      handled_sites before after id first.1 last (handled_by differ j p) (handled_refines d j p v).valid (handled_flat d j p f)
      ∙ ap (sites_left differ) (other_sites d j id first.0 p v f)
