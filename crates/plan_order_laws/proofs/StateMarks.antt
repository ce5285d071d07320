-- What is left of a plan whose caches are handled has its joins and unions, one for one, with their marks, but where a cache stood below.
use Rattle.std.proofs.Common.{◌≡◌, ℕ, Bool, List, [], ◌∷◌, refl, sym, ◌∙◌}
use Rattle.plan_tree.specs.Rose.{no_roses, more}
use Rattle.plan_ir.specs.Plans.{Plan}
use Rattle.plan_meaning.specs.Steps.{IsValid}
use Rattle.plan_order_laws.specs.CacheSites.{CacheSite, cache_sites}
use Rattle.plan_order_laws.specs.SideBySide.{marks, marks_due, marks_in, single}
use Rattle.plan_order_laws.proofs.HandledRefines.{handled_refines}
use Rattle.plan_order_laws.proofs.MarksKept.{handled_marks}
use Rattle.plan_order_laws.proofs.MarksPruned.{marks_one}
use Rattle.plan_order_laws.specs.CacheStates.{cache_states, handled_all, handled_by}
use Rattle.plan_order_laws.proofs.SingleRefines.{single_refines}
use Rattle.plan_order_laws.proofs.SinglePlans.{single_marks}

all_marks : (differ : List CacheSite → Bool) (ids : List ℕ) (p : Plan) → IsValid p → marks (handled_all differ ids p) ≡ marks p
all_marks differ [] p v = refl
all_marks differ (id ∷ ids) p v =
    let d = differ (cache_sites id [] (more p no_roses)) in
    all_marks differ ids (handled_by differ id p) (handled_refines d id p v).valid ∙ handled_marks d id p v

-- the joins and unions of the answer have the marks of the plan's, but where a cache stood below
pub states_marks : (differ : List CacheSite → Bool) (ids : List ℕ) (p : Plan) → IsValid p → marks_in (more (cache_states differ ids p) no_roses) ≡ marks_due (more p no_roses)
states_marks differ ids p v =
    marks_one (cache_states differ ids p)
    ∙ all_marks differ ids (single p) (single_refines p v).valid
    ∙ sym (marks_one (single p))
    ∙ single_marks (more p no_roses)
