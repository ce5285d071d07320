-- What becomes of the caches of a plan: the laws of the whole pass.
use Rattle.std.proofs.Common.{◌≡◌, ℕ, Bool, false, List, [], ◌∷◌, ◌++◌, ap, ◌∙◌}
use Rattle.plan_tree.specs.Rose.{no_roses, more}
use Rattle.plan_ir.specs.Plans.{Plan}
use Rattle.plan_meaning.specs.Caches.{AreShared}
use Rattle.plan_meaning.specs.PlanAt.{one_plan}
use Rattle.plan_meaning.specs.Relating.{Refines}
use Rattle.plan_meaning.specs.Scans.{Keeps}
use Rattle.plan_meaning.specs.Steps.{IsValid}
use Rattle.plan_meaning.proofs.Keeping.{keeps_trans}
use Rattle.plan_meaning.proofs.Refining.{refines_trans}
use Rattle.plan_order_laws.specs.CacheSites.{CacheSite, cache_sites}
use Rattle.plan_order_laws.specs.SideBySide.{hold_cache, single}
use Rattle.plan_order_laws.specs.CacheStates.{IsFlat, cache_states, sites_left, Missing}
use Rattle.plan_order_laws.proofs.HandledAll.{all_flat, all_keeps, all_refines, all_shared, handled_sites}
use Rattle.plan_order_laws.proofs.SingleRefines.{single_keeps, single_refines}
use Rattle.plan_order_laws.proofs.SinglePlans.{single_idle, single_shared}
use Rattle.plan_order_laws.proofs.SingleSites.{single_flat, single_sites}

module _ (differ : List CacheSite → Bool) where
  pub states_refine : (ids : List ℕ) (p : Plan) → IsValid p → Refines (cache_states differ ids p) p
  states_refine ids p v = let h = single_refines p v in refines_trans (cache_states differ ids p) (single p) p (all_refines differ ids (single p) h.valid) h

  pub states_keep : (ids : List ℕ) (p : Plan) → IsValid p → Keeps (cache_states differ ids p) p
  states_keep ids p v = keeps_trans (cache_states differ ids p) (single p) p (all_keeps differ ids (single p) (single_refines p v).valid) (single_keeps p)

  pub states_share : (ids : List ℕ) (p : Plan) → IsValid p → AreShared p → AreShared (cache_states differ ids p)
  states_share ids p v h = all_shared differ ids (single p) (single_refines p v).valid (single_shared p h)

  -- a plan without a cache stays as it is
  pub states_idle : (p : Plan) → hold_cache (more p no_roses) ≡ false → cache_states differ [] p ≡ p
  states_idle p e = ap one_plan (single_idle (more p no_roses) e)

  -- of a flat plan each number is handled as the plan has it
  pub states_sites : (before after : List ℕ) (id : ℕ) → Missing id before → Missing id after → (p : Plan) → IsValid p → IsFlat p
      → cache_sites id [] (more (cache_states differ (before ++ id ∷ after) p) no_roses) ≡ sites_left differ (cache_sites id [] (more p no_roses))
  states_sites before after id first last p v f =
      handled_sites differ before after id first last (single p) (single_refines p v).valid (single_flat p f)
      ∙ ap (sites_left differ) (single_sites id p v f)

  pub states_flat : (ids : List ℕ) (p : Plan) → IsFlat p → IsFlat (cache_states differ ids p)
  states_flat ids p f = all_flat differ ids (single p) (single_flat p f)
